-- The lines of a set-up list, and where each stands.
use Rattle.std.specs.Prelude.{ℕ, ◌+◌, cond, List, [], ◌∷◌, length, ◌==◌}
use Rattle.fault.specs.declared.Place.{Place}
use Rattle.setup.specs.declared.reader.Placed.{Placed}

-- b in front of the first line
abbrev pub onto : ℕ → List (List ℕ) → List (List ℕ)
onto b [] = (b ∷ []) ∷ []
onto b (l ∷ ls) = (b ∷ l) ∷ ls

-- the lines without their newlines; the last may lack its own, and nothing after a final newline is a line
abbrev pub lines : List ℕ → List (List ℕ)
lines [] = []
lines (b ∷ bs) = cond (b == 10) ([] ∷ lines bs) (onto b (lines bs))

-- a line's bytes, and where it stands
abbrev pub TextAt : Type 0
TextAt = Placed (List ℕ)

-- where the line after l begins, if l begins at p: past its newline
abbrev pub past : Place → List ℕ → Place
past p l = record { line = p.line + 1; offset = p.offset + length l + 1 }

-- lines that stand one after the other, the first at p
abbrev pub lay_out : Place → List (List ℕ) → List TextAt
lay_out p [] = []
lay_out p (l ∷ ls) = record { place = p; line = l } ∷ lay_out (past p l) ls

abbrev pub laid : List ℕ → List TextAt
laid bs = lay_out (record { line = 1; offset = 0 }) (lines bs)

-- What is ahead of a reader, and what its steps yield.
use Rattle.std.specs.Prelude.{◌≡◌, ℕ, ◌+◌, Bool, true, false, cond, not, ◌&&◌, ◌≤◌, List, [], ◌∷◌, length, drop, is_some, Some, None, Ok, Err, Option, Result, nat_lt}
use Rattle.std.specs.Borrow.{Bor}
use Rattle.std.specs.Option.{option_map}
use Rattle.fault.specs.Faults.{fault_at}
use Rattle.fault.specs.declared.Cause.TheVariants.{NoForm}
use Rattle.fault.specs.declared.Fault.{Fault}
use Rattle.fault.specs.declared.Place.{Place}
use Rattle.form.specs.Forms.{Said, meaning, trailer_count, form_of}
use Rattle.form.specs.declared.Line.{Line}
use Rattle.setup.specs.declared.reader.Placed.{Placed}
use Rattle.setup.specs.declared.reader.Reader.TheInside.{Inside}
use Rattle.setup.specs.Lines.{TextAt, lines, lay_out}

abbrev pub none : {A : Type 0} → List A → Bool
none [] = true
none (x ∷ xs) = false

abbrev pub first : {A : Type 0} → List A → Option A
first [] = None
first (x ∷ xs) = Some x

abbrev pub rest : {A : Type 0} → List A → List A
rest [] = []
rest (x ∷ xs) = xs

-- where the line after one at p begins, if that ends at `end` in a list of n bytes: past the newline, if one is there
abbrev pub place_after : Place → ℕ → ℕ → Place
place_after p end n = record { line = p.line + 1; offset = cond (nat_lt end n) (end + 1) end }

-- a reader's next line begins within its list, and no more lines than bytes come before it
pub record InList (s : Inside) : Type 0 where
  pub counted : s.place.line ≤ s.place.offset + 1
  pub within : s.place.offset ≤ length s.list.now

-- the lines that a reader has yet to yield
abbrev pub ahead : Inside → List TextAt
ahead s = lay_out s.place (lines (drop s.place.offset s.list.now))

-- f of a line, at its place
abbrev pub placed : {A B : Type 0} → (A → B) → Placed A → Placed B
placed f p = record { place = p.place; line = f p.line }

abbrev pub text_at : Placed (Bor (List ℕ)) → TextAt
text_at t = placed (λ b. b.now) t

-- what a line says, and where it stands
abbrev pub SaidAt : Type 0
SaidAt = Placed Said

abbrev pub said_at : Result (Placed Line) Fault → Result SaidAt Fault
said_at (Ok e) = Ok (placed meaning e)
said_at (Err f) = Err f

-- what the line at p says, or that it has none of the four forms; a trailer that is not the last line counts as having none
abbrev pub entry_from : Place → Bool → Option Said → Result SaidAt Fault
entry_from p last None = Err (fault_at NoForm p)
entry_from p last (Some s) = cond (is_some (trailer_count s) && not last) (Err (fault_at NoForm p)) (Ok (record { place = p; line = s }))

abbrev pub entries : List TextAt → List (Result SaidAt Fault)
entries [] = []
entries (t ∷ ts) = entry_from t.place (none ts) (form_of t.line) ∷ entries ts

-- a reader with s ahead yields r, and then has t ahead
pub record Yields (s : List TextAt) (r : Option (Result (Placed Line) Fault)) (t : List TextAt) : Type 0 where
  pub entry : option_map said_at r ≡ first (entries s)
  pub ahead : t ≡ rest s

-- Where the last line of a list stands, as it is found from the end.
use Rattle.std.specs.Prelude.{◌≡◌, ℕ, ◌+◌, ◌-◌, ◌<◌, ◌⊎◌, List, length, ◌≢◌, slice_index}
use Rattle.fault.specs.declared.Place.{Place}
use Rattle.setup.specs.Lines.{laid}

-- the last line ends at n: there stands a final newline, or the list is empty or unended and ends itself
abbrev pub LastEnd : List ℕ → ℕ → Type 0
LastEnd bs n = ((n + 1 ≡ length bs) × (slice_index bs n ≡ 10)) ⊎ ((n ≡ length bs) × (0 < n → slice_index bs (n - 1) ≢ 10))

-- the place of the last line, if it begins at the offset o
abbrev pub last_place : List ℕ → ℕ → Place
last_place bs o = record { line = length (laid bs); offset = o }

-- The settings of a unit, by register, with the range codes in their places.
use Rattle.std.specs.Prelude.{ℕ, ◌+◌, ◌-◌, ◌*◌, ◌/◌, ◌%◌, Bool, cond, ◌&&◌, List, [], ◌∷◌, map, Option, nat_le, nat_lt, slice_index}
use Rattle.control.specs.declared.range.Range.{Range}
use Rattle.unit.specs.Parts.{bytes_of}
use Rattle.unit.specs.Steps.{put}
use Rattle.registers.specs.declared.Role.{Role}
use Rattle.registers.specs.declared.store.Store.{Store}
use Rattle.registers.specs.Roles.{is_setting, named_bits}

-- register r has one of n range codes from `first` on
abbrev pub has_code : ℕ → ℕ → ℕ → Bool
has_code n first r = nat_le first r && nat_lt r (first + n)

-- the range code with this index
abbrev pub code_in : List Range → ℕ → ℕ
code_in codes = λ i. slice_index (map (λ x. x.code) codes) i

-- bytes, with the low nibbles that are range codes in their places
abbrev pub overlaid : ℕ → ℕ → (ℕ → ℕ) → (ℕ → ℕ) → ℕ → ℕ
overlaid n first codes f = λ r. cond (has_code n first r) (f r / 16 * 16 + codes (r - first)) (f r)

abbrev pub settings_in : {N FIRST : ℕ} → Store N FIRST → ℕ → ℕ
settings_in {N} {FIRST} s = overlaid N FIRST (code_in s.codes) (bytes_of s.page)

-- the range code in the low nibble of register r, 0 where none belongs
abbrev pub range_code : ℕ → ℕ → (ℕ → ℕ) → ℕ → ℕ
range_code n first s r = cond (has_code n first r) (s r % 16) 0

-- the byte has no range code where one belongs
abbrev pub is_misfit : ℕ → ℕ → ℕ → ℕ → Bool
is_misfit n first r b = has_code n first r && nat_lt 4 (b % 16)

-- b in place of the setting at r, unless it is a misfit there
abbrev pub kept : ℕ → ℕ → (ℕ → ℕ) → ℕ → ℕ → ℕ → ℕ
kept n first s r b = cond (is_misfit n first r b) s (put s r b)

-- these bytes put at their registers, one after the other
abbrev pub filled : ℕ → ℕ → (ℕ → ℕ) → List (ℕ × ℕ) → ℕ → ℕ
filled n first s [] = s
filled n first s (x ∷ xs) = filled n first (kept n first s x.0 x.1) xs

-- a byte's named bits put in place of the setting at r, if its role has one
abbrev pub kept_as : ℕ → ℕ → Option Role → (ℕ → ℕ) → ℕ → ℕ → ℕ → ℕ
kept_as n first o s r b = cond (is_setting o) (kept n first s r (named_bits o b)) s

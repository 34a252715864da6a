-- A kind's registers as a table: which are there, what each is for, and its byte at power-on.
use Rattle.std.specs.Prelude.{ℕ, ◌+◌, Bool, true, cond, not, ◌&&◌, ◌||◌, List, [], ◌∷◌, Some, None, Option, ◌==◌, nat_le, nat_lt}
use Rattle.std.specs.Option.{option_map, unwrap_or}
use Rattle.registers.specs.declared.Role.{Role}
use Rattle.registers.specs.Roles.{is_bad_code, is_code, is_setting, named_bits}

-- the registers from the first to the last, of one role, and the byte of each at power-on
pub record Row : Type 0 where
  pub first : ℕ
  pub last : ℕ
  pub role : Role
  pub start : ℕ

abbrev pub row : ℕ → ℕ → Role → ℕ → Row
row first last role start = record { first = first; last = last; role = role; start = start }

abbrev pub look : List Row → ℕ → Option Row
look [] r = None
look (x ∷ xs) r = cond (nat_le x.first r && nat_le r x.last) (Some x) (look xs r)

abbrev pub role_of : Option Row → Option Role
role_of o = option_map (λ x. x.role) o

abbrev pub start_of : Option Row → ℕ
start_of o = unwrap_or (option_map (λ x. x.start) o) 0

-- the byte at power-on of a row of settings can be written there, and has no other bits than the named ones
abbrev pub fits : Row → Bool
fits x = not (is_setting (Some x.role)) || (nat_lt x.start 256 && (not (is_bad_code (Some x.role) x.start) && named_bits (Some x.role) x.start == x.start))

abbrev pub all_fit : List Row → Bool
all_fit [] = true
all_fit (x ∷ xs) = fits x && all_fit xs

-- a row of plain settings has none of the n registers from `first` on, which have range codes
abbrev pub is_apart : ℕ → ℕ → Row → Bool
is_apart n first x = is_code x.role || (nat_lt x.last first || nat_le (first + n) x.first)

abbrev pub all_apart : ℕ → ℕ → List Row → Bool
all_apart n first [] = true
all_apart n first (x ∷ xs) = is_apart n first x && all_apart n first xs

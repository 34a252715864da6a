-- The range codes, and the degrees that each stands for.
use Rattle.std.specs.Prelude.{ℕ, ◌*◌, ◌^◌, Bool, nat_le}

-- 0 to 4 are range codes, and no other number is
abbrev pub is_code : ℕ → Bool
is_code code = nat_le code 4

-- 5, 10, 20, 40 and 80 degrees for the codes 0 to 4
abbrev pub degrees : ℕ → ℕ
degrees code = 5 * 2 ^ code

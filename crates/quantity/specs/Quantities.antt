-- What a register's byte stands for: a bit, a level, degrees.
use Rattle.std.specs.Prelude.{Bool, cond, ◌&&◌, ℕ, ◌-◌, ◌*◌, ◌/◌, ◌%◌, ◌^◌, eqb, ltb, ℤ, pos, negsuc}

abbrev pub bit : ℕ → ℕ → Bool
bit n k = ltb k 8 && eqb (n / 2 ^ k % 2) 1

-- a nibble n stands for the level 17 × n
abbrev pub low_level : ℕ → ℕ
low_level b = 17 * (b % 16)

abbrev pub high_level : ℕ → ℕ
high_level b = 17 * (b / 16)

-- degrees, in two's complement
abbrev pub signed : ℕ → ℤ
signed b = cond (ltb b 128) (pos b) (negsuc (255 - b))

abbrev pub byte_of : ℤ → ℕ
byte_of (pos n) = n
byte_of (negsuc n) = 255 - n

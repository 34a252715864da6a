-- The registers of a single unit: what each is for, and its byte at power-on.
use Rattle.std.specs.Prelude.{ℕ, ◌<◌, List, [], ◌∷◌, Option}
use Rattle.registers.specs.Tables.{Row, look, role_of, row, start_of}
use Rattle.registers.specs.declared.Role.{Role}
use Rattle.registers.specs.declared.Role.TheVariants.{Setting, Code, Reading}

abbrev pub rows : List Row
rows =
    row 0x00 0x00 (Setting 0x10) 0x10  -- bit 4 monitoring
    ∷ row 0x10 0x10 (Setting 0x0f) 0x05  -- minimum
    ∷ row 0x18 0x19 (Setting 0xff) 0x20  -- start of the local, the remote loop
    ∷ row 0x1a 0x1b (Code 0x0f) 0x03  -- range code of the local, the remote loop
    ∷ row 0x1c 0x1c (Setting 0xff) 0x50  -- high limit of the local temperature
    ∷ row 0x1d 0x1d (Setting 0xff) 0x64  -- high limit of the remote temperature
    ∷ row 0x1e 0x1e (Setting 0xff) 0xff  -- limit of the tachometer
    ∷ row 0x20 0x22 Reading 0x00  -- last reading of the tachometer, the local, the remote temperature
    ∷ []

abbrev pub role_at : ℕ → Option Role
role_at r = role_of (look rows r)

abbrev pub power_on_byte : ℕ → ℕ
power_on_byte r = start_of (look rows r)

-- the bytes that are not 0 at power-on, each with its register
abbrev pub first_bytes : List (ℕ × ℕ)
first_bytes =
    (0x00, 0x10) ∷ (0x10, 0x05) ∷ (0x18, 0x20) ∷ (0x19, 0x20) ∷ (0x1a, 0x03) ∷ (0x1b, 0x03) ∷ (0x1c, 0x50) ∷ (0x1d, 0x64) ∷ (0x1e, 0xff) ∷ []

-- beside a range code its register has no other bits
pub record LoneCodes (s : ℕ → ℕ) : Type 0 where
  pub local : s 0x1a < 16
  pub remote : s 0x1b < 16

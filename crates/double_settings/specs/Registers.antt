-- The registers of a double unit: what each is for, and its byte at power-on, by the strap.
use Rattle.std.specs.Prelude.{ℕ, Bool, cond, not, ◌||◌, List, [], ◌∷◌, Option, ◌==◌}
use Rattle.registers.specs.Tables.{Row, look, role_of, row, start_of}
use Rattle.registers.specs.declared.Role.{Role}
use Rattle.registers.specs.declared.Role.TheVariants.{Setting, Code, Status, Reading}

-- straps 0 and 7 switch automatic control off
abbrev pub is_automatic : ℕ → Bool
is_automatic p = not (p == 0 || p == 7)

-- the start of every loop at power-on, in degrees
abbrev pub first_start : ℕ → ℕ
first_start p = cond (p == 1 || p == 6) 48 (cond (p == 2 || p == 5) 40 32)

-- by whether control is automatic, and the start of the loops at power-on
abbrev pub rows_for : Bool → ℕ → List Row
rows_for automatic start =
    row 0x01 0x01 (Setting 0xf2) (cond automatic 0x10 0x00)  -- bits 1 mask INT, 4 monitoring, 5 force line, 6 force INT, 7 INT polarity
    ∷ row 0x10 0x11 Status 0x00  -- marks of the sources of fan 1, fan 2
    ∷ row 0x18 0x19 (Setting 0xff) 0x00  -- bits 0-3 INT, 4-7 pull, for the sources of fan 1, fan 2 in order
    ∷ row 0x20 0x21 (Setting 0x0f) 0x00  -- demand of each source of fan 1, fan 2: bits 0, 1 alarm level of fan 1, 2; bits 2, 3 hot-plug level
    ∷ row 0x40 0x42 (Setting 0x07) 0x00  -- of a temperature: bits 0 INT, 1 alarm, 2 pull; bit 7 shows whether it is held
    ∷ row 0x48 0x4a (Setting 0x03) (cond automatic 0x03 0x00)  -- bits 0, 1: the channel drives fan 1, 2
    ∷ row 0x60 0x61 (Setting 0xff) 0xff  -- high nibble alarm level, low nibble minimum level of fan 1, 2
    ∷ row 0x68 0x69 (Setting 0xff) 0x2f  -- low nibble hot-plug level of fan 1, 2
    ∷ row 0x70 0x71 Reading 0x00  -- last tachometer reading of fan 1, 2
    ∷ row 0x78 0x79 (Setting 0xff) 0xff  -- tachometer limit of fan 1, 2
    ∷ row 0x80 0x82 (Setting 0xff) start  -- start of each loop
    ∷ row 0x88 0x8a (Code 0xff) 0x51  -- low nibble range code, high nibble hysteresis of each loop
    ∷ row 0x90 0x90 (Setting 0xff) 0x50  -- high limit of the local temperature
    ∷ row 0x91 0x92 (Setting 0xff) 0x64  -- high limit of the remote temperatures
    ∷ row 0xa0 0xa2 Reading 0x00  -- last temperatures
    ∷ row 0xf0 0xf0 (Setting 0x03) 0x00  -- bits 0, 1: fan 1, 2 answers a low line with its alarm level
    ∷ []

abbrev pub rows : ℕ → List Row
rows p = rows_for (is_automatic p) (first_start p)

-- the strap decides no role
abbrev pub role_at : ℕ → Option Role
role_at r = role_of (look (rows 0) r)

abbrev pub power_on_byte : ℕ → ℕ → ℕ
power_on_byte p r = start_of (look (rows p) r)

-- the bytes that are not 0 at power-on, each with its register, by whether control is automatic, and the start of the loops
abbrev pub first_bytes_for : Bool → ℕ → List (ℕ × ℕ)
first_bytes_for automatic start =
    (0x01, cond automatic 0x10 0x00)
    ∷ (0x48, cond automatic 0x03 0x00) ∷ (0x49, cond automatic 0x03 0x00) ∷ (0x4a, cond automatic 0x03 0x00)
    ∷ (0x60, 0xff) ∷ (0x61, 0xff) ∷ (0x68, 0x2f) ∷ (0x69, 0x2f) ∷ (0x78, 0xff) ∷ (0x79, 0xff)
    ∷ (0x80, start) ∷ (0x81, start) ∷ (0x82, start) ∷ (0x88, 0x51) ∷ (0x89, 0x51) ∷ (0x8a, 0x51)
    ∷ (0x90, 0x50) ∷ (0x91, 0x64) ∷ (0x92, 0x64) ∷ []

abbrev pub first_bytes : ℕ → List (ℕ × ℕ)
first_bytes p = first_bytes_for (is_automatic p) (first_start p)

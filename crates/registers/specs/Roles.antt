-- What follows from the role of a register; None where no register is.
use Rattle.std.specs.Prelude.{ℕ, ◌%◌, Bool, true, false, cond, is_some, Some, None, Ok, Option, Result, bit_and, nat_lt}
use Rattle.fault.specs.declared.Cause.TheVariants.{NoRegister, ReadOnly, RangeCode}
use Rattle.fault.specs.declared.Fault.{Fault}
use Rattle.unit.specs.Answers.{refused}
use Rattle.unit.specs.Steps.{put}
use Rattle.registers.specs.declared.Role.{Role}
use Rattle.registers.specs.declared.Role.TheVariants.{Setting, Code, Status, Reading}

abbrev pub is_reading : Option Role → Bool
is_reading None = false
is_reading (Some (Setting m)) = false
is_reading (Some (Code m)) = false
is_reading (Some Status) = false
is_reading (Some Reading) = true

abbrev pub is_setting : Option Role → Bool
is_setting None = false
is_setting (Some (Setting m)) = true
is_setting (Some (Code m)) = true
is_setting (Some Status) = false
is_setting (Some Reading) = false

abbrev pub is_code : Role → Bool
is_code (Setting m) = false
is_code (Code m) = true
is_code Status = false
is_code Reading = false

-- a range code above 4
abbrev pub is_bad_code : Option Role → ℕ → Bool
is_bad_code None b = false
is_bad_code (Some (Setting m)) b = false
is_bad_code (Some (Code m)) b = nat_lt 4 (b % 16)
is_bad_code (Some Status) b = false
is_bad_code (Some Reading) b = false

-- the named bits of a byte
abbrev pub named_bits : Option Role → ℕ → ℕ
named_bits None b = 0
named_bits (Some (Setting m)) b = bit_and b m
named_bits (Some (Code m)) b = bit_and b m
named_bits (Some Status) b = 0
named_bits (Some Reading) b = 0

-- what a write answers: no such register, read only, a range code above 4
abbrev pub answer_to : Option Role → ℕ → Result (Unit {0}) Fault
answer_to o b = cond (is_some o) (cond (is_reading o) (refused ReadOnly) (cond (is_bad_code o b) (refused RangeCode) (Ok tt))) (refused NoRegister)

-- settings after a write of a byte to a register with this role: only a setting is changed, to the byte's named bits
abbrev pub stored_as : Option Role → (ℕ → ℕ) → ℕ → ℕ → ℕ → ℕ
stored_as o s r b = cond (is_setting o) (put s r (named_bits o b)) s

-- What the calls of a unit answer, and in which order they are refused.
use Rattle.std.specs.Prelude.{ℕ, Bool, cond, ◌&&◌, ℤ, Ok, Err, Result, int_le, nat_lt}
use Rattle.fault.specs.Faults.{unplaced}
use Rattle.fault.specs.declared.Cause.{Cause}
use Rattle.fault.specs.declared.Cause.TheVariants.{NoRegister, ReadOnly, RangeCode, NoSourceOrFan, ValueOutOfRange}
use Rattle.fault.specs.declared.Fault.{Fault}
use Rattle.unit.specs.Kind.{Kind, State}

abbrev pub refused : {A : Type 0} → Cause → Result A Fault
refused c = Err (unplaced c)

-- no such register, read only, a range code above 4
abbrev pub write_answer : Kind → ℕ → ℕ → Result (Unit {0}) Fault
write_answer k r b = cond (k.present r) (cond (k.constant r) (refused ReadOnly) (cond (k.bad_code r b) (refused RangeCode) (Ok tt))) (refused NoRegister)

abbrev pub read_answer : (k : Kind) → State k → ℕ → Result ℕ Fault
read_answer k u r = cond (k.present r) (Ok (k.shows u.page u.marks u.own r)) (refused NoRegister)

-- v lies in the range of source s
abbrev pub in_range : Kind → ℕ → ℤ → Bool
in_range k s v = int_le (k.low s) v && int_le v (k.high s)

-- no such source, a value outside its range
abbrev pub report_answer : Kind → ℕ → ℤ → Result (Unit {0}) Fault
report_answer k s v = cond (nat_lt s k.sources) (cond (in_range k s v) (Ok tt) (refused ValueOutOfRange)) (refused NoSourceOrFan)

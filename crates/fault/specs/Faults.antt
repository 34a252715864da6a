-- The number and the layer of each cause of refusal, and the line that tells a fault.
use Rattle.std.specs.Prelude.{ℕ, List, ◌++◌, Some, None, Option, codes, decimal}
use Rattle.std.specs.Option.{unwrap_or}
use Rattle.fault.specs.declared.Cause.{Cause}
use Rattle.fault.specs.declared.Cause.TheVariants.{NoUnit, NoRegister, ReadOnly, RangeCode, NoSourceOrFan, ValueOutOfRange, ListTooLong, NoForm, NoTrailer, TrailerCount, FanCount, BufferTooShort}
use Rattle.fault.specs.declared.Layer.{Layer}
use Rattle.fault.specs.declared.Layer.TheVariants.{List as InList, Rack as InRack, Unit as InUnit, Text as InText}
use Rattle.fault.specs.declared.Fault.{Fault}
use Rattle.fault.specs.declared.Place.{Place}

pub record Rule : Type 0 where
  pub number : ℕ
  pub layer : Layer

abbrev pub rule : Cause → Rule
rule NoUnit = record { number = 1; layer = InRack }
rule NoRegister = record { number = 2; layer = InUnit }
rule ReadOnly = record { number = 3; layer = InUnit }
rule RangeCode = record { number = 4; layer = InUnit }
rule NoSourceOrFan = record { number = 5; layer = InUnit }
rule ValueOutOfRange = record { number = 6; layer = InUnit }
rule ListTooLong = record { number = 7; layer = InList }
rule NoForm = record { number = 8; layer = InList }
rule NoTrailer = record { number = 9; layer = InList }
rule TrailerCount = record { number = 10; layer = InList }
rule FanCount = record { number = 11; layer = InList }
rule BufferTooShort = record { number = 12; layer = InText }

-- a fault of the line at p
abbrev pub fault_at : Cause → Place → Fault
fault_at c p = record { cause = c; place = Some p }

-- a fault that no line has
abbrev pub unplaced : Cause → Fault
unplaced c = record { cause = c; place = None }

-- the place that a fault tells: 0 and 0 where it has no line
abbrev pub told_place : Option Place → Place
told_place o = unwrap_or o (record { line = 0; offset = 0 })

-- `fault NUMBER LINE OFFSET`, in decimal
abbrev pub fault_line : Fault → List ℕ
fault_line f = codes "fault " ++ (decimal (rule f.cause).number ++ (codes " " ++ (decimal (told_place f.place).line ++ (codes " " ++ decimal (told_place f.place).offset))))

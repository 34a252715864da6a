-- What a double unit does with its sources, by their numbers.
use Rattle.std.specs.Prelude.{ℕ, ◌+◌, Bool, true, false, cond, not, ◌&&◌, ℤ, pos, negsuc, Some, None, Ok, Option, Result, ◌==◌, int_le, int_lt}
use Rattle.double_settings.specs.Parts.{channel_index, fan_at, fan_index, source_at}
use Rattle.double_settings.specs.declared.parts.Fan.{Fan}
use Rattle.double_settings.specs.declared.parts.FanSource.{FanSource}
use Rattle.double_settings.specs.declared.parts.FanSource.TheVariants.{Missing, Fault as FaultPin, Tach, HotPlug}
use Rattle.double_settings.specs.declared.parts.Source.{Source}
use Rattle.double_settings.specs.declared.parts.Source.TheVariants.{OfFan, Temperature}
use Rattle.fault.specs.declared.Cause.TheVariants.{NoSourceOrFan, ValueOutOfRange}
use Rattle.fault.specs.declared.Fault.{Fault}
use Rattle.quantity.specs.Quantities.{bit}
use Rattle.unit.specs.Answers.{refused}

-- what f says of the source, the fan, and d where there is none
abbrev pub said : {A B : Type 0} → B → (A → B) → Option A → B
said d f None = d
said d f (Some x) = f x

abbrev pub of_source : {B : Type 0} → B → (Source → B) → ℕ → B
of_source d f n = said d f (source_at n)

abbrev pub of_fan : {B : Type 0} → B → (Fan → B) → ℕ → B
of_fan d f n = said d f (fan_at n)

abbrev pub is_temperature : Source → Bool
is_temperature (OfFan f k) = false
is_temperature (Temperature c) = true

abbrev pub lowest : Source → ℤ
lowest (OfFan f k) = pos 0
lowest (Temperature c) = negsuc 127

-- a tachometer gives a byte; missing, fault and hot-plug are 0 or 1
abbrev pub highest : Source → ℤ
highest (OfFan f Missing) = pos 1
highest (OfFan f FaultPin) = pos 1
highest (OfFan f Tach) = pos 255
highest (OfFan f HotPlug) = pos 1
highest (Temperature c) = pos 127

-- v lies in the range of the source
abbrev pub takes : Source → ℤ → Bool
takes s v = int_le (lowest s) v && int_le v (highest s)

-- the source that a report is served for, or the refusal
abbrev pub served_source : ℤ → Option Source → Result Source Fault
served_source v None = refused NoSourceOrFan
served_source v (Some s) = cond (takes s v) (Ok s) (refused ValueOutOfRange)

-- whether a pin is set, from 0 or 1
abbrev pub taken_pin : ℤ → Result Bool Fault
taken_pin v = cond (int_le (pos 0) v && int_le v (pos 1)) (Ok (int_lt (pos 0) v)) (refused ValueOutOfRange)

-- the bit of 10h, 11h that shows whether a fan's source is held
abbrev pub held_bit : FanSource → ℕ
held_bit Missing = 1
held_bit FaultPin = 2
held_bit Tach = 6
held_bit HotPlug = 7

-- a 0 written to a held bit ends that hold
abbrev pub ends_hold : ℕ → ℕ → Source → Bool
ends_hold r b (OfFan f k) = r == 0x10 + fan_index f && not (bit b (held_bit k))
ends_hold r b (Temperature c) = r == 0x40 + channel_index c && not (bit b 7)

-- The sources of a single unit, by number, and what a report tells.
use Rattle.std.specs.Prelude.{ℕ, ◌+◌, ℤ, pos}
use Rattle.single.specs.declared.source.Channel.{Channel}
use Rattle.single.specs.declared.source.Channel.TheVariants.{Local, Remote}
use Rattle.single.specs.declared.source.Report.{Report}
use Rattle.single.specs.declared.source.Report.TheVariants.{Tach as OfTach, Temperature as OfTemperature}
use Rattle.single.specs.declared.source.Source.{Source}
use Rattle.single.specs.declared.source.Source.TheVariants.{Tach, Temperature}

abbrev pub channel_index : Channel → ℕ
channel_index Local = 0
channel_index Remote = 1

-- source 0 is the tachometer, 1 the local and 2 the remote temperature
abbrev pub source_number : Source → ℕ
source_number Tach = 0
source_number (Temperature c) = 1 + channel_index c

-- the source of a report, by number
abbrev pub number_of : Report → ℕ
number_of (OfTach t) = 0
number_of (OfTemperature c t) = 1 + channel_index c

abbrev pub value_of : Report → ℤ
value_of (OfTach t) = pos t
value_of (OfTemperature c t) = t

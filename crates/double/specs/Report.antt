-- What a report tells: its source, and the value.
use Rattle.std.specs.Prelude.{ℤ, pos}
use Rattle.std.specs.Int.{from_bool}
use Rattle.double_settings.specs.declared.parts.FanSource.TheVariants.{Missing, Fault, Tach, HotPlug}
use Rattle.double_settings.specs.declared.parts.Source.{Source}
use Rattle.double_settings.specs.declared.parts.Source.TheVariants.{OfFan, Temperature}
use Rattle.double.specs.declared.report.Report.{Report}
use Rattle.double.specs.declared.report.Report.TheVariants.{Missing as MissingReport, Fault as FaultReport, Tach as TachReport, HotPlug as HotPlugReport, Temperature as TemperatureReport}

abbrev pub source_of : Report → Source
source_of (MissingReport f b) = OfFan f Missing
source_of (FaultReport f b) = OfFan f Fault
source_of (TachReport f n) = OfFan f Tach
source_of (HotPlugReport f b) = OfFan f HotPlug
source_of (TemperatureReport c t) = Temperature c

abbrev pub value_of : Report → ℤ
value_of (MissingReport f b) = pos (from_bool b)
value_of (FaultReport f b) = pos (from_bool b)
value_of (TachReport f n) = pos n
value_of (HotPlugReport f b) = pos (from_bool b)
value_of (TemperatureReport c t) = t

-- What a report changes of the own state of a double unit.
use Rattle.std.specs.Prelude.{ℕ, ℤ, unsigned_abs}
use Rattle.control.specs.State.{heard}
use Rattle.control.specs.declared.state.Loop.{Loop}
use Rattle.double_settings.specs.Parts.{channel_index, fan_index}
use Rattle.double_settings.specs.Settings.{hysteresis_at, start_at}
use Rattle.double_settings.specs.declared.parts.Channel.{Channel}
use Rattle.double_settings.specs.declared.parts.Fan.{Fan}
use Rattle.double_settings.specs.declared.parts.FanSource.TheVariants.{Missing, Fault, Tach, HotPlug}
use Rattle.double_settings.specs.declared.parts.Source.{Source}
use Rattle.double_settings.specs.declared.parts.Source.TheVariants.{OfFan, Temperature}
use Rattle.own.specs.State.{OwnState, with_loop, with_tach}

abbrev pub tach_of : OwnState → Fan → ℕ
tach_of o f = o.tachs (fan_index f)

abbrev pub loop_of : OwnState → Channel → Loop
loop_of o c = o.loops (channel_index c)

-- the loop of a channel after a report
abbrev pub heard_at : (ℕ → ℕ) → Channel → Loop → ℤ → Loop
heard_at s c l v = heard l v (start_at s c) (hysteresis_at s c)

-- the own state after a report: only tachometers and temperatures are kept
abbrev pub reported_by : (ℕ → ℕ) → OwnState → ℤ → Source → OwnState
reported_by s o v (OfFan f Missing) = o
reported_by s o v (OfFan f Fault) = o
reported_by s o v (OfFan f Tach) = with_tach o (fan_index f) (unsigned_abs v)
reported_by s o v (OfFan f HotPlug) = o
reported_by s o v (Temperature c) = with_loop o (channel_index c) (heard_at s c (loop_of o c) v)

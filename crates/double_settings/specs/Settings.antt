-- The settings of a double unit, by register, and what they say.
use Rattle.std.specs.Prelude.{ℕ, ◌+◌, ◌/◌, ◌%◌, max, Bool, true, cond, not, ◌&&◌, ◌||◌, ℤ, pos}
use Rattle.control.specs.declared.thermostat.Thermostat.{Thermostat}
use Rattle.quantity.specs.Quantities.{bit, low_level, high_level, signed}
use Rattle.registers.specs.Settings.{settings_in}
use Rattle.double_settings.specs.declared.parts.Channel.{Channel}
use Rattle.double_settings.specs.declared.parts.Fan.{Fan}
use Rattle.double_settings.specs.declared.parts.FanSource.TheVariants.{Missing, Fault, Tach, HotPlug}
use Rattle.double_settings.specs.declared.parts.Source.{Source}
use Rattle.double_settings.specs.declared.parts.Source.TheVariants.{OfFan, Temperature}
use Rattle.double_settings.specs.declared.settings.Settings.{Settings}
use Rattle.double_settings.specs.Parts.{fan_index, channel_index, kind_index}

-- the setting at each register
abbrev pub settings_of : Settings → ℕ → ℕ
settings_of s = settings_in s.store

-- 01h

abbrev pub masks_int : (ℕ → ℕ) → Bool
masks_int s = bit (s 0x01) 1

abbrev pub monitoring : (ℕ → ℕ) → Bool
monitoring s = bit (s 0x01) 4

abbrev pub forces_line : (ℕ → ℕ) → Bool
forces_line s = bit (s 0x01) 5

abbrev pub forces_int : (ℕ → ℕ) → Bool
forces_int s = bit (s 0x01) 6

abbrev pub polarity : (ℕ → ℕ) → Bool
polarity s = bit (s 0x01) 7

-- by fan

abbrev pub alarm_level : (ℕ → ℕ) → Fan → ℕ
alarm_level s f = high_level (s (0x60 + fan_index f))

abbrev pub minimum : (ℕ → ℕ) → Fan → ℕ
minimum s f = low_level (s (0x60 + fan_index f))

abbrev pub hot_plug_level : (ℕ → ℕ) → Fan → ℕ
hot_plug_level s f = low_level (s (0x68 + fan_index f))

-- a fan that answers does so with its alarm level
abbrev pub answer_of : (ℕ → ℕ) → Fan → ℕ
answer_of s f = cond (bit (s 0xf0) (fan_index f)) (alarm_level s f) 0

-- by channel

abbrev pub start_at : (ℕ → ℕ) → Channel → ℤ
start_at s c = signed (s (0x80 + channel_index c))

abbrev pub code_at : (ℕ → ℕ) → Channel → ℕ
code_at s c = s (0x88 + channel_index c) % 16

abbrev pub hysteresis_at : (ℕ → ℕ) → Channel → ℕ
hysteresis_at s c = s (0x88 + channel_index c) / 16

-- when a report turns the loop of a channel on
abbrev pub thermostat_at : (ℕ → ℕ) → Channel → Thermostat
thermostat_at s c = record { start = start_at s c; hysteresis = hysteresis_at s c }

abbrev pub alarms : (ℕ → ℕ) → Channel → Bool
alarms s c = bit (s (0x40 + channel_index c)) 1

abbrev pub drives : (ℕ → ℕ) → Channel → Fan → Bool
drives s c f = bit (s (0x48 + channel_index c)) (fan_index f)

-- by source

-- the value above which a report fails
abbrev pub limit_of : (ℕ → ℕ) → Source → ℤ
limit_of s (OfFan f Missing) = pos 0
limit_of s (OfFan f Fault) = pos 0
limit_of s (OfFan f Tach) = pos (s (0x78 + fan_index f))
limit_of s (OfFan f HotPlug) = pos 0
limit_of s (Temperature c) = signed (s (0x90 + channel_index c))

-- a fan's sources are always held, a temperature while its alarm bit is set
abbrev pub holds : (ℕ → ℕ) → Source → Bool
holds s (OfFan f k) = true
holds s (Temperature c) = alarms s c

-- the bit of a source for one effect: of a fan's sources the four bits from `first` on, of a temperature bit k
abbrev pub has_effect : (ℕ → ℕ) → ℕ → ℕ → Source → Bool
has_effect s first k (OfFan f m) = bit (s (0x18 + fan_index f)) (first + kind_index m)
has_effect s first k (Temperature c) = bit (s (0x40 + channel_index c)) k

abbrev pub pulls_by : (ℕ → ℕ) → Source → Bool
pulls_by s x = has_effect s 4 2 x

abbrev pub asserts_by : (ℕ → ℕ) → Source → Bool
asserts_by s x = has_effect s 0 0 x

-- what these bits ask of fan f: bits 0, 1 its alarm level, if it is fan 1, 2; bits 2, 3 its hot-plug level; the greater if both
abbrev pub demand_by_bits : (ℕ → ℕ) → ℕ → Fan → ℕ
demand_by_bits s r f = max (cond (bit (s r) (fan_index f)) (alarm_level s f) 0) (cond (bit (s r) (2 + fan_index f)) (hot_plug_level s f) 0)

-- the level that a source asks of fan f; a temperature asks the fans that it drives for their alarm level, while its alarm bit is set
abbrev pub demand_by : (ℕ → ℕ) → Source → Fan → ℕ
demand_by s (OfFan g k) f = demand_by_bits s (0x20 + fan_index g) f
demand_by s (Temperature c) f = cond (alarms s c && drives s c f) (alarm_level s f) 0

-- INT, with and without a standing cause that asserts it, and the level of its pin
abbrev pub interrupt_by : (ℕ → ℕ) → Bool → Bool
interrupt_by s cause = forces_int s || (not (masks_int s) && cause)

abbrev pub pin_by : (ℕ → ℕ) → Bool → Bool
pin_by s cause = cond (interrupt_by s cause) (polarity s) (not (polarity s))

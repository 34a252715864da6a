-- The fans, channels and sources of a double unit, by number.
use Rattle.std.specs.Prelude.{ℕ, ◌+◌, ◌*◌, List, [], ◌∷◌, Option, slice_get}
use Rattle.double_settings.specs.declared.parts.Channel.{Channel}
use Rattle.double_settings.specs.declared.parts.Channel.TheVariants.{Local, Remote1, Remote2}
use Rattle.double_settings.specs.declared.parts.Fan.{Fan}
use Rattle.double_settings.specs.declared.parts.Fan.TheVariants.{First, Second}
use Rattle.double_settings.specs.declared.parts.FanSource.{FanSource}
use Rattle.double_settings.specs.declared.parts.FanSource.TheVariants.{Missing, Fault, Tach, HotPlug}
use Rattle.double_settings.specs.declared.parts.Source.{Source}
use Rattle.double_settings.specs.declared.parts.Source.TheVariants.{OfFan, Temperature}

abbrev pub fans : List Fan
fans = First ∷ Second ∷ []

abbrev pub fan_at : ℕ → Option Fan
fan_at n = slice_get fans n

abbrev pub channels : List Channel
channels = Local ∷ Remote1 ∷ Remote2 ∷ []

abbrev pub sources : List Source
sources =
    OfFan First Missing ∷ OfFan First Fault ∷ OfFan First Tach ∷ OfFan First HotPlug
    ∷ OfFan Second Missing ∷ OfFan Second Fault ∷ OfFan Second Tach ∷ OfFan Second HotPlug
    ∷ Temperature Local ∷ Temperature Remote1 ∷ Temperature Remote2 ∷ []

abbrev pub source_at : ℕ → Option Source
source_at n = slice_get sources n

abbrev pub fan_index : Fan → ℕ
fan_index First = 0
fan_index Second = 1

abbrev pub channel_index : Channel → ℕ
channel_index Local = 0
channel_index Remote1 = 1
channel_index Remote2 = 2

-- the place of a fan's source among its four
abbrev pub kind_index : FanSource → ℕ
kind_index Missing = 0
kind_index Fault = 1
kind_index Tach = 2
kind_index HotPlug = 3

-- the number of a source
abbrev pub source_number : Source → ℕ
source_number (OfFan f k) = 4 * fan_index f + kind_index k
source_number (Temperature c) = 8 + channel_index c

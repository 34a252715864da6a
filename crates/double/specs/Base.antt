-- The base of a double unit's fan: its level before any cause or line.
use Rattle.std.specs.Prelude.{◌≡◌, ℕ, max, Bool, true, false, cond, ◌&&◌, T}
use Rattle.std.specs.List.{fold, list_any}
use Rattle.control.specs.Range.{degrees}
use Rattle.control.specs.State.{level_in}
use Rattle.control.specs.declared.state.Loop.{Loop}
use Rattle.double_settings.specs.Parts.{channels}
use Rattle.double_settings.specs.Registers.{is_automatic}
use Rattle.double_settings.specs.Settings.{alarm_level, code_at, drives, minimum, monitoring, start_at}
use Rattle.double_settings.specs.declared.parts.Channel.{Channel}
use Rattle.double_settings.specs.declared.parts.Fan.{Fan}
use Rattle.unit.specs.Levels.{Greatest}
use Rattle.own.specs.State.{OwnState}
use Rattle.double.specs.Own.{loop_of}

-- what the loop of a channel asks of fan f
abbrev pub level_from : (ℕ → ℕ) → Channel → Fan → Loop → ℕ
level_from s c f l = level_in l (start_at s c) (degrees (code_at s c)) (minimum s f)

-- the same while the channel drives the fan
abbrev pub driven_level : (ℕ → ℕ) → OwnState → Fan → Channel → ℕ
driven_level s o f c = cond (drives s c f) (level_from s c f (loop_of o c)) 0

abbrev pub loops_level : (ℕ → ℕ) → OwnState → Fan → ℕ
loops_level s o f = fold (λ n c. max (driven_level s o f c) n) 0 channels

-- some channel drives the fan
abbrev pub is_driven : (ℕ → ℕ) → Fan → Bool
is_driven s f = list_any (λ c. drives s c f) channels

-- the alarm level while monitoring is off, else the greatest level of the loops that drive the fan, or its minimum if there are none or
-- automatic control is off
abbrev pub base_by : ℕ → (ℕ → ℕ) → OwnState → Fan → ℕ
base_by p s o f = cond (monitoring s) (cond (is_automatic p && is_driven s f) (loops_level s o f) (minimum s f)) (alarm_level s f)

-- The same as relations.

-- the levels that the loops which drive the fan ask for
pub data Asked (s : ℕ → ℕ) (o : OwnState) (f : Fan) : ℕ → Type 0 where
  by : (c : Channel) → T (drives s c f) → Asked s o f (level_from s c f (loop_of o c))

-- n is the base of fan f
pub record IsBase (p : ℕ) (s : ℕ → ℕ) (o : OwnState) (f : Fan) (n : ℕ) : Type 0 where
  pub unmonitored : monitoring s ≡ false → n ≡ alarm_level s f
  pub manual : monitoring s ≡ true → is_automatic p ≡ false → n ≡ minimum s f
  pub undriven : monitoring s ≡ true → ((c : Channel) → drives s c f ≡ false) → n ≡ minimum s f
  pub driven : monitoring s ≡ true → is_automatic p ≡ true → (c : Channel) → T (drives s c f) → Greatest (Asked s o f) n

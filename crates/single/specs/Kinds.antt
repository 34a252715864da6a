-- The single unit as a kind.
use Rattle.std.specs.Prelude.{ℕ, max, Bool, true, false, cond, not, ◌||◌, ℤ, pos, negsuc, is_some, Some, None, Option, ◌==◌, int_lt, unsigned_abs}
use Rattle.control.specs.Range.{degrees}
use Rattle.control.specs.State.{heard, level_in}
use Rattle.control.specs.declared.state.Loop.{Loop}
use Rattle.own.specs.State.{HotterOwn, OwnState, fresh, with_loop, with_tach}
use Rattle.quantity.specs.Quantities.{byte_of}
use Rattle.registers.specs.Roles.{is_bad_code, is_reading, is_setting, named_bits}
use Rattle.registers.specs.declared.Role.{Role}
use Rattle.registers.specs.declared.Role.TheVariants.{Setting, Code, Status, Reading}
use Rattle.unit.specs.Kind.{Kind}
use Rattle.unit.specs.Steps.{put}
use Rattle.single.specs.declared.source.Channel.{Channel}
use Rattle.single.specs.declared.source.Channel.TheVariants.{Local, Remote}
use Rattle.single.specs.Registers.{power_on_byte, role_at}
use Rattle.single.specs.Settings.{code_at, limit, minimum, monitoring, start_at}
use Rattle.single.specs.Sources.{channel_index}

-- source 0 is the tachometer, 1 the local and 2 the remote temperature
abbrev pub is_temperature : ℕ → Bool
is_temperature n = n == 1 || n == 2

-- the loop of a channel after a report, with a hysteresis of 5 degrees
abbrev pub heard_at : (ℕ → ℕ) → Channel → Loop → ℤ → Loop
heard_at s c l v = heard l v (start_at s c) 5

abbrev pub with_temperature : (ℕ → ℕ) → OwnState → Channel → ℤ → OwnState
with_temperature s o c v = with_loop o (channel_index c) (heard_at s c (o.loops (channel_index c)) v)

-- the own state after a report
abbrev pub reported_to : (ℕ → ℕ) → OwnState → ℕ → ℤ → OwnState
reported_to s o n v = cond (n == 0) (with_tach o 0 (unsigned_abs v)) (cond (n == 1) (with_temperature s o Local v) (cond (n == 2) (with_temperature s o Remote v) o))

abbrev pub level_from : (ℕ → ℕ) → Channel → Loop → ℕ
level_from s c l = level_in l (start_at s c) (degrees (code_at s c)) (minimum s)

-- full duty while monitoring is off, else the greater level of both loops
abbrev pub base_from : (ℕ → ℕ) → OwnState → ℕ
base_from s o = cond (monitoring s) (max (level_from s Local (o.loops 0)) (level_from s Remote (o.loops 1))) 255

abbrev pub reading_of : OwnState → Channel → ℤ
reading_of o c = (o.loops (channel_index c)).reading

-- the byte of a last reading, by the register that shows it
abbrev pub reading_at : OwnState → ℕ → ℕ
reading_at o r = cond (r == 0x20) (o.tachs 0) (cond (r == 0x21) (byte_of (reading_of o Local)) (byte_of (reading_of o Remote)))

-- the byte that a read gives
abbrev pub shown : (ℕ → ℕ) → OwnState → ℕ → Option Role → ℕ
shown s o r None = 0
shown s o r (Some (Setting m)) = s r
shown s o r (Some (Code m)) = s r
shown s o r (Some Status) = s r
shown s o r (Some Reading) = reading_at o r

abbrev pub single : Kind
single = record {
  fans = 1;
  sources = 3;
  present = λ r. is_some (role_at r);
  constant = λ r. is_reading (role_at r);
  setting = λ r. is_setting (role_at r);
  bad_code = λ r b. is_bad_code (role_at r) b;
  named = λ r b. named_bits (role_at r) b;
  Page = ℕ → ℕ;
  power_on = λ p. power_on_byte;
  byte = λ s r. s r;
  store = λ s r b. put s r (named_bits (role_at r) b);
  clears = λ r b n. false;
  warms = is_temperature;
  low = λ n. cond (is_temperature n) (negsuc 127) (pos 0);
  high = λ n. cond (is_temperature n) (pos 127) (pos 255);
  fails = λ s n v. int_lt (limit s n) v;
  latches = λ s n. false;
  pulls = λ s n. true;
  asserts = λ s n. true;
  demand = λ s n f. 255;
  answer = λ s f. 255;
  forced = λ s. false;
  interrupt = λ s c. c;
  pin = λ s c. not c;
  Own = OwnState;
  fresh = fresh;
  reported = reported_to;
  base = λ p s o f. base_from s o;
  shows = λ s m o r. shown s o r (role_at r);
  Hotter = HotterOwn;
}

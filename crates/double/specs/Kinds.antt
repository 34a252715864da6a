-- The double unit as a kind.
use Rattle.std.specs.Prelude.{ℕ, ◌+◌, ◌-◌, false, cond, ◌&&◌, List, length, pos, is_some, None, Option, bit_or, int_lt, nat_le, nat_lt, slice_get}
use Rattle.double_settings.specs.Parts.{channel_index, channels, fans}
use Rattle.double_settings.specs.Registers.{power_on_byte, role_at}
use Rattle.double_settings.specs.Settings.{answer_of, asserts_by, demand_by, forces_line, holds, interrupt_by, limit_of, pin_by, pulls_by}
use Rattle.double_settings.specs.declared.parts.Channel.{Channel}
use Rattle.own.specs.State.{HotterOwn, OwnState, fresh}
use Rattle.quantity.specs.Quantities.{byte_of}
use Rattle.registers.specs.Roles.{is_bad_code, is_reading, is_setting, named_bits, stored_as}
use Rattle.unit.specs.Kind.{Kind}
use Rattle.unit.specs.declared.mark.Mark.{Mark}
use Rattle.double.specs.Base.{base_by}
use Rattle.double.specs.Own.{loop_of, reported_by, tach_of}
use Rattle.double.specs.Sources.{ends_hold, highest, is_temperature, lowest, of_fan, of_source, said}
use Rattle.double.specs.Status.{status_of, weight}

-- the settings of a temperature, with its held bit
abbrev pub alarm_byte : (ℕ → ℕ) → (ℕ → Mark) → Channel → ℕ
alarm_byte s m c = bit_or (s (0x40 + channel_index c)) (weight (m (8 + channel_index c)).held 0x80)

-- the item with this number, if the first has the number k
abbrev pub numbered : {A : Type 0} → ℕ → List A → ℕ → Option A
numbered k xs n = cond (nat_le k n && nat_lt n (k + length xs)) (slice_get xs (n - k)) None

-- the byte that a read gives: marks, temperatures' settings with their held bits, tachometers, temperatures; else the setting
abbrev pub shown : (ℕ → ℕ) → (ℕ → Mark) → OwnState → ℕ → ℕ
shown s m o r =
    said (said (said (said (s r) (λ c. byte_of (loop_of o c).reading) (numbered 0xa0 channels r)) (tach_of o) (numbered 0x70 fans r)) (alarm_byte s m) (numbered 0x40 channels r)) (status_of m) (numbered 0x10 fans r)

abbrev pub double : Kind
double = record {
  fans = 2;
  sources = 11;
  present = λ r. is_some (role_at r);
  constant = λ r. is_reading (role_at r);
  setting = λ r. is_setting (role_at r);
  bad_code = λ r b. is_bad_code (role_at r) b;
  named = λ r b. named_bits (role_at r) b;
  Page = ℕ → ℕ;
  power_on = power_on_byte;
  byte = λ s r. s r;
  store = λ s r b. stored_as (role_at r) s r b;
  clears = λ r b n. of_source false (ends_hold r b) n;
  warms = λ n. of_source false is_temperature n;
  low = λ n. of_source (pos 0) lowest n;
  high = λ n. of_source (pos 0) highest n;
  fails = λ s n v. of_source false (λ x. int_lt (limit_of s x) v) n;
  latches = λ s n. of_source false (holds s) n;
  pulls = λ s n. of_source false (pulls_by s) n;
  asserts = λ s n. of_source false (asserts_by s) n;
  demand = λ s n f. of_source 0 (λ x. of_fan 0 (demand_by s x) f) n;
  answer = λ s f. of_fan 0 (answer_of s) f;
  forced = forces_line;
  interrupt = interrupt_by;
  pin = pin_by;
  Own = OwnState;
  fresh = fresh;
  reported = λ s o n v. of_source o (reported_by s o v) n;
  base = λ p s o f. of_fan 0 (base_by p s o) f;
  shows = shown;
  Hotter = HotterOwn;
}

-- The settings of a single unit, by register, and what they say.
use Rattle.std.specs.Prelude.{ℕ, ◌+◌, Bool, cond, not, ◌&&◌, ◌||◌, ℤ, pos, ◌==◌, nat_le}
use Rattle.quantity.specs.Quantities.{bit, low_level, signed}
use Rattle.registers.specs.Roles.{is_bad_code, is_setting, named_bits}
use Rattle.registers.specs.Settings.{has_code, settings_in}
use Rattle.unit.specs.Steps.{put}
use Rattle.single.specs.declared.settings.Settings.{Settings}
use Rattle.single.specs.declared.source.Channel.{Channel}
use Rattle.single.specs.Registers.{role_at}
use Rattle.single.specs.Sources.{channel_index}

-- the setting at each register
abbrev pub settings_of : Settings → ℕ → ℕ
settings_of s = settings_in s.store

-- a write changes the setting that it can, to the byte's named bits
abbrev pub stored_in : (ℕ → ℕ) → ℕ → ℕ → ℕ → ℕ
stored_in s r b = cond (is_setting (role_at r) && not (is_bad_code (role_at r) b)) (put s r (named_bits (role_at r) b)) s

-- where a range code stands alone, only a code has room
abbrev pub has_room : ℕ → ℕ → Bool
has_room r b = nat_le b 4 || not (has_code 2 0x1a r)

-- a byte in place of the one at a register, if it has room there
abbrev pub placed_in : (ℕ → ℕ) → ℕ → ℕ → ℕ → ℕ
placed_in s r b = cond (has_room r b) (put s r b) s

-- while 0, the fan runs at full duty
abbrev pub monitoring : (ℕ → ℕ) → Bool
monitoring s = bit (s 0x00) 4

abbrev pub minimum : (ℕ → ℕ) → ℕ
minimum s = low_level (s 0x10)

abbrev pub start_at : (ℕ → ℕ) → Channel → ℤ
start_at s c = signed (s (0x18 + channel_index c))

abbrev pub code_at : (ℕ → ℕ) → Channel → ℕ
code_at s c = s (0x1a + channel_index c)

-- the value above which a report of the source fails
abbrev pub limit : (ℕ → ℕ) → ℕ → ℤ
limit s n = cond (n == 0) (pos (s 0x1e)) (cond (n == 1) (signed (s 0x1c)) (signed (s 0x1d)))

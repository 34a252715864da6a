-- One control loop: when a report turns it on or off, and its level from 0 to 255, full duty.
use Rattle.std.specs.Prelude.{ℕ, ◌+◌, ◌-◌, ◌*◌, ◌/◌, Bool, true, false, cond, ℤ, pos, ◌+ℤ◌, ◌-ℤ◌, int_le, int_lt, unsigned_abs}

-- t is more than h degrees below the start
abbrev pub is_below : ℤ → ℤ → ℕ → Bool
is_below t start h = int_lt t (start -ℤ pos h)

-- a report of t turns the loop on above the start, off below it by more than h, and otherwise leaves it as it was
abbrev pub turned_by : Bool → ℤ → ℤ → ℕ → Bool
turned_by on t start h = cond (int_lt start t) true (cond (is_below t start h) false on)

-- the level `rise` degrees above the start, within the range: m plus the whole part of (255 - m) × rise / width.
-- The formula stands here alone, and it is shut: other definitions and proofs have only its laws.
unfoldable pub ramp_level : ℕ → ℕ → ℕ → ℕ
ramp_level m width rise = m + (255 - m) * rise / width

-- the level while on: the minimum m up to the start, full duty from the end of the range, and the ramp between them
abbrev pub level_on : ℤ → ℤ → ℕ → ℕ → ℕ
level_on t start width m =
    cond (int_le t start) m (cond (int_le (start +ℤ pos width) t) 255 (ramp_level m width (unsigned_abs (t -ℤ start))))

-- the level, which is 0 while off
abbrev pub loop_level : Bool → ℤ → ℤ → ℕ → ℕ → ℕ
loop_level on t start width m = cond on (level_on t start width m) 0

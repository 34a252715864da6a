-- A control loop at a moment, and when one is at least as hot as another.
use Rattle.std.specs.Prelude.{ℕ, false, T, ℤ, pos, ◌≤ℤ◌}
use Rattle.control.specs.declared.state.Loop.{Loop}
use Rattle.control.specs.Loop.{loop_level, turned_by}

-- after a reset
abbrev pub off : Loop
off = record { on = false; reading = pos 0 }

-- after a report of t
abbrev pub heard : Loop → ℤ → ℤ → ℕ → Loop
heard l t start h = record { on = turned_by l.on t start h; reading = t }

abbrev pub level_in : Loop → ℤ → ℕ → ℕ → ℕ
level_in l start width m = loop_level l.on l.reading start width m

-- b is at least as hot: on where a is, at no lower a reading
pub record Warmer (a b : Loop) : Type 0 where
  pub on : T a.on → T b.on
  pub reading : a.reading ≤ℤ b.reading

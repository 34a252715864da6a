-- What holds of a control loop at any readings, for settings that stay the same.
use Rattle.std.specs.Prelude.{ℕ, ◌≤◌, Bool, T, ℤ, ◌≤ℤ◌}
use Rattle.control.specs.Loop.{level_on, loop_level, turned_by}

-- the level rises with the reading, and off counts below on
abbrev pub LevelRises : ℤ → ℕ → ℕ → Type 0
LevelRises start width m =
    (on on' : Bool) (t t' : ℤ) → (T on → T on') → t ≤ℤ t' →
    loop_level on t start width m ≤ loop_level on' t' start width m

-- while on, the level lies between the minimum m and full duty
abbrev pub LevelBounded : ℤ → ℕ → ℕ → Type 0
LevelBounded start width m = (t : ℤ) → (m ≤ level_on t start width m) × (level_on t start width m ≤ 255)

-- a loop that is on after a report is on after a hotter one too
abbrev pub OnSurvives : ℤ → ℕ → Type 0
OnSurvives start h =
    (on on' : Bool) (t t' : ℤ) → (T on → T on') → t ≤ℤ t' →
    T (turned_by on t start h) → T (turned_by on' t' start h)

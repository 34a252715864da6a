-- A control loop at two readings: the hotter keeps it on, and asks for no lower level. The range may have any width.
use Rattle.std.proofs.Common.{ℕ, ◌≤◌, true, false, ℤ, arith}
use borrow.Author.Differences.{ints}
use Rattle.control.specs.Laws.{LevelBounded, LevelRises, OnSurvives}
use Rattle.control.proofs.Slope.{ramp_from, ramp_rises, ramp_to}

pub on_survives : (start : ℤ) (h : ℕ) → OnSurvives start h
on_survives start h on on' t t' i le s = grind (arith, ints)

pub level_bounded : (start : ℤ) (width m : ℕ) → m ≤ 255 → LevelBounded start width m
level_bounded start width m b t = (grind (arith, ints, ramp_from), grind (arith, ints, ramp_to))

pub level_rises : (start : ℤ) (width m : ℕ) → m ≤ 255 → LevelRises start width m
level_rises start width m b false on' t t' i le = omega arith
level_rises start width m b true false t t' i le = absurd (i tt)
level_rises start width m b true true t t' i le = grind (arith, ints, ramp_from, ramp_rises, ramp_to)

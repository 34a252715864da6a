-- The worked examples of a control loop, all together as one fact.
use Rattle.std.specs.Prelude.{◌≡◌, true, false, pos, negsuc}
use Rattle.control.specs.Loop.{loop_level, turned_by}
use Rattle.control.specs.Range.{degrees}

pub record WorkedExamples : Type 0 where
  -- start 20, range 40, minimum 85, on
  pub halfway : loop_level true (pos 40) (pos 20) (degrees 3) 85 ≡ 170
  pub whole_range : loop_level true (pos 60) (pos 20) (degrees 3) 85 ≡ 255
  pub one_short : loop_level true (pos 59) (pos 20) (degrees 3) 85 ≡ 250
  pub below_start : loop_level true (pos 15) (pos 20) (degrees 3) 85 ≡ 85
  -- start 20, hysteresis 5: off at the start, on a degree above it, and off again more than 5 degrees below it
  pub stays_off : turned_by false (pos 20) (pos 20) 5 ≡ false
  pub turns_on : turned_by false (pos 21) (pos 20) 5 ≡ true
  pub once_on : loop_level (turned_by false (pos 21) (pos 20) 5) (pos 21) (pos 20) (degrees 3) 85 ≡ 89
  pub turns_off : turned_by true (pos 14) (pos 20) 5 ≡ false
  -- start -10, range 5, minimum 85, on, at -9
  pub below_zero : loop_level true (negsuc 8) (negsuc 9) (degrees 0) 85 ≡ 119

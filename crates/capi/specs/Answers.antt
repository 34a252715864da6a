-- The numbers that the functions for C answer: of a set-up list, and of a control loop.
use Rattle.std.specs.Prelude.{ℕ, Bool, cond, ◌||◌, List, ℤ, pos, negsuc, Ok, Err, Result, int_lt}
use Rattle.control.specs.Loop.{loop_level}
use Rattle.control.specs.Range.{degrees, is_code}
use Rattle.fault.specs.Faults.{rule}
use Rattle.fault.specs.declared.Fault.{Fault}
use Rattle.setup.specs.Verdict.{first_fault, verdict}

-- the number of a fault, and 0 for none
abbrev pub number_of : Result (Unit {0}) Fault → ℕ
number_of (Ok _) = 0
number_of (Err f) = (rule f.cause).number

-- the number of the list's first fault
abbrev pub list_answer : List ℕ → ℕ
list_answer bs = number_of (verdict (first_fault bs))

-- a loop is on at any number but 0
abbrev pub is_on : ℤ → Bool
is_on on = int_lt on (pos 0) || int_lt (pos 0) on

-- the level, and -4 for a code that no range has
abbrev pub level_answer : ℤ → ℤ → ℤ → ℕ → ℕ → ℤ
level_answer on t start code m = cond (is_code code) (pos (loop_level (is_on on) t start (degrees code) m)) (negsuc 3)

-- What is wrong with a set-up list, whatever units it is for: the first fault that it meets.
use Rattle.std.specs.Prelude.{◌≡◌, ℕ, cond, List, [], ◌∷◌, ◌++◌, length, Some, None, Ok, Err, Option, Result, ◌==◌, ◌≢◌, nat_lt}
use Rattle.std.specs.List.{last_or}
use Rattle.std.specs.Option.{option_or}
use Rattle.fault.specs.Faults.{fault_at, unplaced}
use Rattle.fault.specs.declared.Cause.TheVariants.{ListTooLong, NoTrailer, TrailerCount}
use Rattle.fault.specs.declared.Fault.{Fault}
use Rattle.fault.specs.declared.Place.{Place}
use Rattle.form.specs.Forms.{given, trailer_count, form_of}
use Rattle.setup.specs.Cutting.{Unended}
use Rattle.setup.specs.Lines.{TextAt, laid}
use Rattle.setup.specs.Reading.{SaidAt, entries}

abbrev pub last_of : List TextAt → Option TextAt
last_of ts = last_or None ts

-- a trailer counts the bytes before it
abbrev pub count_fault : Place → Option ℕ → Option Fault
count_fault p None = Some (unplaced NoTrailer)
count_fault p (Some count) = cond (count == p.offset) None (Some (fault_at TrailerCount p))

-- the last line is a trailer
abbrev pub trailer_fault : Option TextAt → Option Fault
trailer_fault None = Some (unplaced NoTrailer)
trailer_fault (Some t) = count_fault t.place (given (form_of t.line) trailer_count)

-- a list has at most 24,576 bytes
abbrev pub length_fault : List ℕ → Option Fault
length_fault bs = cond (nat_lt 24576 (length bs)) (Some (unplaced ListTooLong)) None

-- what comes before any line: too long a list, no trailer, a wrong count
abbrev pub ends_fault : List ℕ → Option Fault
ends_fault bs = option_or (length_fault bs) (trailer_fault (last_of (laid bs)))

-- the fault of the first faulty line
abbrev pub first_in : List (Result SaidAt Fault) → Option Fault
first_in [] = None
first_in (Ok s ∷ es) = first_in es
first_in (Err f ∷ es) = Some f

abbrev pub first_fault : List ℕ → Option Fault
first_fault bs = option_or (ends_fault bs) (first_in (entries (laid bs)))

abbrev pub verdict : Option Fault → Result (Unit {0}) Fault
verdict None = Ok tt
verdict (Some f) = Err f

-- r is also the verdict on the list with its missing last newline added, unless that makes the list too long
abbrev pub Newline : List ℕ → Result (Unit {0}) Fault → Type 0
Newline bs r = Unended bs → (length bs ≢ 24576) → r ≡ verdict (first_fault (bs ++ 10 ∷ []))

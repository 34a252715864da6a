-- What the calls of a unit do: a report, a write, a reset.
use Rattle.std.specs.Prelude.{ℕ, Bool, cond, not, ◌&&◌, ◌||◌, ℤ, Ok, Err, Result, ◌==◌, nat_lt}
use Rattle.unit.specs.declared.mark.Mark.{Mark}
use Rattle.unit.specs.Kind.{Kind, State, made}

-- f with v in place of what it has at k
abbrev pub put : {A : Type 0} → (ℕ → A) → ℕ → A → ℕ → A
put f k v = λ n. cond (n == k) v (f n)

-- the same where there are n, and f as it was where k is none of them
abbrev pub put_below : {A : Type 0} → ℕ → (ℕ → A) → ℕ → A → ℕ → A
put_below n f k v = cond (nat_lt k n) (put f k v) f

-- a report is failing or not as its value is judged, and a failing one is held if the settings hold it; else the hold stays as it was
abbrev pub marked : Bool → Bool → Mark → Mark
marked fails latches m = record { failing = fails; held = (fails && latches) || m.held }

-- a write ends a hold, and touches no failing mark
abbrev pub ended : Bool → Mark → Mark
ended over m = record { failing = m.failing; held = m.held && not over }

-- a report changes its source's mark and the own state
abbrev pub report_in : (k : Kind) → State k → ℕ → ℤ → State k
report_in k u s v = record {
  strap = u.strap;
  page = u.page;
  marks = put u.marks s (marked (k.fails u.page s v) (k.latches u.page s) (u.marks s));
  own = k.reported u.page u.own s v;
}

-- a write changes a setting, and ends the holds that the kind names for it
abbrev pub write_in : (k : Kind) → State k → ℕ → ℕ → State k
write_in k u r b = record {
  strap = u.strap;
  page = k.store u.page r b;
  marks = λ n. ended (k.clears r b n) (u.marks n);
  own = u.own;
}

-- a reset gives the unit as made
abbrev pub reset_in : (k : Kind) → State k → State k
reset_in k u = made k u.strap

-- the state after a call that was answered so
abbrev pub after : {A E S : Type 0} → Result A E → S → S → S
after (Ok x) new old = new
after (Err e) new old = old

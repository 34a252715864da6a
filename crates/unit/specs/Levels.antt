-- What a unit asks of the line, of INT and of its fans.
use Rattle.std.specs.Prelude.{ℕ, zero, suc, ◌<◌, ◌≤◌, max, Bool, false, cond, ◌&&◌, ◌||◌, T, ◌⊎◌, Ok, Result, nat_lt}
use Rattle.fault.specs.declared.Cause.TheVariants.{NoSourceOrFan}
use Rattle.fault.specs.declared.Fault.{Fault}
use Rattle.unit.specs.Answers.{refused}
use Rattle.unit.specs.Kind.{Kind, State}

-- the greatest of f below n, and 0 where there is none
abbrev pub greatest : ℕ → (ℕ → ℕ) → ℕ
greatest zero f = 0
greatest (suc n) f = max (f n) (greatest n f)

-- p holds of some number below n
abbrev pub some : ℕ → (ℕ → Bool) → Bool
some zero p = false
some (suc n) p = p n || some n p

-- the cause of a source stands while it is failing or held
abbrev pub stands_in : (k : Kind) → State k → ℕ → Bool
stands_in k u s = (u.marks s).failing || (u.marks s).held

-- the source has a standing cause that acts so
abbrev pub causes : (k : Kind) → (k.Page → ℕ → Bool) → State k → ℕ → Bool
causes k acts u s = stands_in k u s && acts u.page s

-- the demand of a source, while its cause stands
abbrev pub demand_in : (k : Kind) → State k → ℕ → ℕ → ℕ
demand_in k u f s = cond (stands_in k u s) (k.demand u.page s f) 0

abbrev pub base_of : (k : Kind) → State k → ℕ → ℕ
base_of k u f = k.base u.strap u.page u.own f

-- the unit pulls the line: it is forced, or has a standing cause that pulls
abbrev pub pulls_line : (k : Kind) → State k → Bool
pulls_line k u = k.forced u.page || some k.sources (causes k k.pulls u)

-- a standing cause asserts INT
abbrev pub int_cause : (k : Kind) → State k → Bool
int_cause k u = some k.sources (causes k k.asserts u)

-- INT
abbrev pub int_of : (k : Kind) → State k → Bool
int_of k u = k.interrupt u.page (int_cause k u)

-- the level of the INT pin
abbrev pub pin_of : (k : Kind) → State k → Bool
pin_of k u = k.pin u.page (int_cause k u)

-- the greatest standing demand on a fan
abbrev pub demanded : (k : Kind) → State k → ℕ → ℕ
demanded k u f = greatest k.sources (demand_in k u f)

-- all that does not come from the base: the standing demands, and the answer while the line is low
abbrev pub asked : (k : Kind) → State k → Bool → ℕ → ℕ
asked k u low f = max (demanded k u f) (cond low (k.answer u.page f) 0)

-- a fan's level
abbrev pub level_of : (k : Kind) → State k → Bool → ℕ → ℕ
level_of k u low f = max (base_of k u f) (asked k u low f)

abbrev pub level_answer : (k : Kind) → State k → Bool → ℕ → Result ℕ Fault
level_answer k u low f = cond (nat_lt f k.fans) (Ok (level_of k u low f)) (refused NoSourceOrFan)

-- The same as relations.

-- some source has a standing cause that acts so
abbrev pub Cause : (k : Kind) → (k.Page → ℕ → Bool) → State k → Type 0
Cause k acts u = (s : ℕ) × (s < k.sources) × (T (stands_in k u s) × T (acts u.page s))

-- the unit pulls the line
abbrev pub Pulls : (k : Kind) → State k → Type 0
Pulls k u = T (k.forced u.page) ⊎ Cause k k.pulls u

-- the levels that a fan is offered: its base, each standing demand, and its answer while the line is low
pub data Offer (k : Kind) (u : State k) (Low : Type 0) (f : ℕ) : ℕ → Type 0 where
  base : Offer k u Low f (base_of k u f)
  demand : {s : ℕ} → s < k.sources → T (stands_in k u s) → Offer k u Low f (k.demand u.page s f)
  answer : Low → Offer k u Low f (k.answer u.page f)

-- n is the greatest number of which P holds
pub record Greatest (P : ℕ → Type 0) (n : ℕ) : Type 0 where
  pub offered : P n
  pub above : (m : ℕ) → P m → m ≤ n

-- What a unit asks of the line and of a fan, as relations.
use Rattle.std.proofs.Common.{◌≡◌, ℕ, zero, suc, ◌<◌, ◌≤◌, Bool, true, false, cond, T, ◌⊎◌, Decides, sym, refl, ap, ◌∙◌, subst, inl, inr, ⊎_elim, arith}
use Rattle.std.proofs.lemmas.Bool.{cases_lt}
use Rattle.std.proofs.lemmas.Bool.Decides.{Decides-at, Decides-below_or, Decides-and, Decides-or}
use Rattle.unit.specs.Kind.{Kind, State}
use Rattle.unit.specs.Levels.{greatest, some, stands_in, causes, demand_in, base_of, demanded, asked, level_of, pulls_line, Cause, Pulls, Offer, Greatest}
use Rattle.unit.specs.Levels.Offer.{base, demand, answer}

decides-T : (b : Bool) → Decides b (T b)
decides-T true = (λ e. tt, λ t. refl)
decides-T false = (λ e. subst T (sym e) tt, λ t. absurd t)

some_decides : (k : Kind) (acts : k.Page → ℕ → Bool) (u : State k) → Decides (some k.sources (causes k acts u)) (Cause k acts u)
some_decides k acts u =
    Decides-below_or (causes k acts u) (λ s. T (stands_in k u s) × T (acts u.page s)) (λ n. some n (causes k acts u))
    (λ s. Decides-and (stands_in k u s) (acts u.page s) (decides-T _) (decides-T _)) refl (λ n. refl) k.sources

pub pulls_decides : (k : Kind) (u : State k) (r : Bool) → r ≡ pulls_line k u → Decides r (Pulls k u)
pulls_decides k u r e = Decides-at r (pulls_line k u) e (Decides-or (k.forced u.page) (some k.sources (causes k k.pulls u)) (decides-T _) (some_decides k k.pulls u))

-- the greatest of numbers is one of them, unless it is 0
greatest_is : (n : ℕ) (f : ℕ → ℕ) → (greatest n f ≡ 0) ⊎ ((s : ℕ) × (s < n) × (greatest n f ≡ f s))
greatest_is zero f = inl refl
greatest_is (suc n) f =
    ⊎_elim
    (λ less. ⊎_elim (λ none. absurd (omega arith)) (λ found. inr (found.0, omega (arith, found.1), omega (arith, found.2))) (greatest_is n f))
    (λ here. inr (n, omega arith, omega arith))
    (cases_lt (f n) (greatest n f))

greatest_above : (n : ℕ) (f : ℕ → ℕ) (s : ℕ) → s < n → f s ≤ greatest n f
greatest_above zero f s h = absurd (omega arith)
greatest_above (suc n) f s h =
    ⊎_elim (λ less. omega (arith, greatest_above n f s less)) (λ here. let same : s ≡ n = omega arith in omega (arith, ap f same)) (cases_lt s n)

module _ (k : Kind) (u : State k) (low : Bool) (f : ℕ) where
  -- a standing demand that is not 0 is offered
  from_demand : (s : ℕ) (t : Bool) → stands_in k u s ≡ t → s < k.sources → 0 < cond t (k.demand u.page s f) 0 → Offer k u (T low) f (cond t (k.demand u.page s f) 0)
  from_demand s true e h some = demand h (subst T (sym e) tt)
  from_demand s false e h some = absurd (omega arith)

  from_answer : (t : Bool) → t ≡ low → 0 < cond t (k.answer u.page f) 0 → Offer k u (T low) f (cond t (k.answer u.page f) 0)
  from_answer true e some = answer (subst T e tt)
  from_answer false e some = absurd (omega arith)

  from_asked : 0 < asked k u low f → Offer k u (T low) f (asked k u low f)
  from_asked some =
      ⊎_elim
      (λ less. let is : cond low (k.answer u.page f) 0 ≡ asked k u low f = omega arith in subst (Offer k u (T low) f) is (from_answer low refl (omega arith)))
      (λ more.
      let is : demanded k u f ≡ asked k u low f = omega arith in
      ⊎_elim
      (λ none. absurd (omega arith))
      (λ found. subst (Offer k u (T low) f) (sym found.2 ∙ is) (from_demand found.0 (stands_in k u found.0) refl found.1 (omega (arith, found.2))))
      (greatest_is k.sources (demand_in k u f)))
      (cases_lt (demanded k u f) (cond low (k.answer u.page f) 0))

  offered : Offer k u (T low) f (level_of k u low f)
  offered =
      ⊎_elim
      (λ less. let is : asked k u low f ≡ level_of k u low f = omega arith in subst (Offer k u (T low) f) is (from_asked (omega arith)))
      (λ more. let is : base_of k u f ≡ level_of k u low f = omega arith in subst (Offer k u (T low) f) is base)
      (cases_lt (base_of k u f) (asked k u low f))

  stands_demand : (s : ℕ) (t : Bool) → T t → k.demand u.page s f ≤ cond t (k.demand u.page s f) 0
  stands_demand s true h = omega arith
  stands_demand s false h = absurd h

  low_answer : (t : Bool) → T t → k.answer u.page f ≤ cond t (k.answer u.page f) 0
  low_answer true h = omega arith
  low_answer false h = absurd h

  below : {m : ℕ} → Offer k u (T low) f m → m ≤ level_of k u low f
  below base = omega arith
  below (demand {s} h stands) = omega (arith, greatest_above k.sources (demand_in k u f) s h, stands_demand s (stands_in k u s) stands)
  below (answer h) = omega (arith, low_answer low h)

  pub greatest_level : (n : ℕ) → n ≡ level_of k u low f → Greatest (Offer k u (T low) f) n
  greatest_level n e = subst (Greatest (Offer k u (T low) f)) (sym e) (record { offered = offered; above = λ m o. below o })

-- The base of a fan, as a relation.
use Rattle.std.proofs.Common.{◌≡◌, ℕ, ◌≤◌, max, Bool, true, false, cond, ◌&&◌, T, sym, refl, ap, ◌∙◌, subst, ⊎_elim, arith}
use Rattle.std.specs.List.{fold}
use Rattle.std.proofs.lemmas.Bool.{and_right, cases_lt, cond-false, cond-true, or_from, or_left, or_right}
use Rattle.double_settings.specs.Parts.{channels}
use Rattle.double_settings.specs.Registers.{is_automatic}
use Rattle.double_settings.specs.Settings.{drives, minimum, monitoring}
use Rattle.double_settings.specs.declared.parts.Channel.{Channel}
use Rattle.double_settings.specs.declared.parts.Channel.TheVariants.{Local, Remote1, Remote2}
use Rattle.double_settings.specs.declared.parts.Fan.{Fan}
use Rattle.registers.proofs.Laws.{is_true}
use Rattle.own.specs.State.{OwnState}
use Rattle.double.specs.Own.{loop_of}
use Rattle.double.specs.Base.{Asked, IsBase, base_by, driven_level, is_driven, level_from, loops_level}
use Rattle.double.specs.Base.Asked.{by}

-- the greatest of three numbers is one of them
greatest_of : (g : Channel → ℕ) → (c : Channel) × (fold (λ n c. max (g c) n) 0 channels ≡ g c)
greatest_of g =
    ⊎_elim
    (λ less. ⊎_elim (λ last. (Remote2, omega arith)) (λ middle. (Remote1, omega arith)) (cases_lt (g Remote1) (g Remote2)))
    (λ first. ⊎_elim (λ last. (Remote2, omega arith)) (λ middle. (Local, omega arith)) (cases_lt (g Local) (g Remote2)))
    (cases_lt (g Local) (g Remote1))

module _ (s : ℕ → ℕ) (o : OwnState) (f : Fan) where
  driven_at : (c : Channel) → T (drives s c f) → driven_level s o f c ≡ level_from s c f (loop_of o c)
  driven_at c d = cond-true (drives s c f) (level_from s c f (loop_of o c)) 0 (is_true _ d)

  below : (c : Channel) → driven_level s o f c ≤ loops_level s o f
  below Local = omega arith
  below Remote1 = omega arith
  below Remote2 = omega arith

  -- a loop that does not drive the fan asks for 0, and then every loop that does asks for 0 too
  asked : (c : Channel) → T (drives s c f) → Asked s o f (loops_level s o f)
  asked c d = from (greatest_of (driven_level s o f)).0 (drives s (greatest_of (driven_level s o f)).0 f) refl (greatest_of (driven_level s o f)).1
    where
      from : (e : Channel) (t : Bool) → drives s e f ≡ t → loops_level s o f ≡ driven_level s o f e → Asked s o f (loops_level s o f)
      from e true is top = subst (Asked s o f) (sym (top ∙ cond-true (drives s e f) (level_from s e f (loop_of o e)) 0 is)) (by e (subst T (sym is) tt))
      from e false is top =
          let none : loops_level s o f ≡ 0 = top ∙ cond-false (drives s e f) (level_from s e f (loop_of o e)) 0 is in
          let zero : level_from s c f (loop_of o c) ≡ loops_level s o f = omega (arith, below c, driven_at c d) in
          subst (Asked s o f) zero (by c d)

  under : {m : ℕ} → Asked s o f m → m ≤ loops_level s o f
  under (by c d) = omega (arith, below c, driven_at c d)

  some_driven : (c : Channel) → T (drives s c f) → is_driven s f ≡ true
  some_driven Local d = or_left (drives s Local f) _ (is_true _ d)
  some_driven Remote1 d = or_right (drives s Local f) _ (or_left (drives s Remote1 f) _ (is_true _ d))
  some_driven Remote2 d = or_right (drives s Local f) _ (or_right (drives s Remote1 f) _ (or_left (drives s Remote2 f) _ (is_true _ d)))

  is_base : (p : ℕ) → IsBase p s o f (base_by p s o f)
  is_base p = record {
    unmonitored = λ off. cond-false (monitoring s) _ _ off;
    manual = λ on a. monitored on ∙ ap (λ t. cond (t && is_driven s f) (loops_level s o f) (minimum s f)) a;
    undriven = λ on none. monitored on ∙ cond-false (is_automatic p && is_driven s f) _ _ (and_right (is_automatic p) _ (or_from (drives s Local f) _ (none Local) (or_from (drives s Remote1 f) _ (none Remote1) (or_from (drives s Remote2 f) _ (none Remote2) refl))));
    driven = λ on a c d.
        let is : base_by p s o f ≡ loops_level s o f = monitored on ∙ ap (λ t. cond (t && is_driven s f) (loops_level s o f) (minimum s f)) a ∙ cond-true (is_driven s f) _ _ (some_driven c d) in
        record { offered = subst (Asked s o f) (sym is) (asked c d); above = λ m h. subst (λ n. m ≤ n) (sym is) (under h) };
  }
    where
      monitored : monitoring s ≡ true → base_by p s o f ≡ cond (is_automatic p && is_driven s f) (loops_level s o f) (minimum s f)
      monitored on = cond-true (monitoring s) _ _ on

-- the base by its definition is the base by its relation
pub is_base_by : (p : ℕ) (s : ℕ → ℕ) (o : OwnState) (f : Fan) (n : ℕ) → n ≡ base_by p s o f → IsBase p s o f n
is_base_by p s o f n e = subst (IsBase p s o f) (sym e) (is_base s o f p)

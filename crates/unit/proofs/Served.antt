-- What a served call tells of its arguments, for every kind.
use Rattle.std.proofs.Common.{◌≡◌, ℕ, ◌<◌, Bool, true, false, cond, T, ltb, ℤ, Ok, Err, sym, refl, subst, arith}
use Rattle.fault.specs.declared.Cause.TheVariants.{NoSourceOrFan, ValueOutOfRange}
use Rattle.std.proofs.lemmas.Bool.{ltb-true}
use Rattle.unit.specs.Answers.{refused, in_range, report_answer}
use Rattle.unit.specs.Kind.{Kind}

-- no call is both refused and served
pub never : {A B : Type 0} {e : A} {x : B} → Err e ≡ Ok x → ⊥
never e = let z : ◌≡◌ {A = ℕ} 0 1 = cc in omega arith

parts : (a b : Bool) (x : Unit {0}) → cond a (cond b (Ok tt) (refused ValueOutOfRange)) (refused NoSourceOrFan) ≡ Ok x → (a ≡ true) × (b ≡ true)
parts true true x e = (refl, refl)
parts true false x e = absurd (never e)
parts false b x e = absurd (never e)

module _ (k : Kind) (n : ℕ) (v : ℤ) where
  pub source_served : {x : Unit {0}} → report_answer k n v ≡ Ok x → n < k.sources
  source_served {x} e = ltb-true n k.sources (parts (ltb n k.sources) (in_range k n v) x e).0

  pub served_range : {x : Unit {0}} → report_answer k n v ≡ Ok x → T (in_range k n v)
  served_range {x} e = subst T (sym (parts (ltb n k.sources) (in_range k n v) x e).1) tt

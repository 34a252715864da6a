-- What a report of a double unit answers, by the source that it is served for.
use Rattle.std.proofs.Common.{◌≡◌, ℕ, zero, suc, ◌+◌, Bool, true, false, cond, ◌&&◌, T, eqb, ltb, ℤ, pos, List, [], ◌∷◌, length, slice_get, is_some, Some, None, Ok, Err, Option, Result, sym, refl, ap, ◌∙◌, arith}
use lib.Signed.{le_z, lt_z}
use Rattle.std.proofs.lemmas.Bool.{eqb-true, le-ltb, lt-ltb}
use Rattle.std.proofs.lemmas.Bool.Decides.{nat_tests}
use Rattle.double_settings.specs.Parts.{source_at, source_number, sources}
use Rattle.double_settings.specs.declared.parts.Source.{Source}
use Rattle.fault.specs.declared.Cause.TheVariants.{NoSourceOrFan, ValueOutOfRange}
use Rattle.fault.specs.declared.Fault.{Fault}
use Rattle.registers.proofs.Laws.{both_parts, is_true}
use Rattle.std.specs.Result.{result_map_both}
use Rattle.double_settings.specs.Settings.{holds, limit_of}
use Rattle.unit.specs.Answers.{refused, report_answer}
use Rattle.unit.specs.Kind.{State}
use Rattle.unit.specs.Steps.{marked, put, report_in}
use Rattle.double.specs.declared.report.Report.{Report}
use Rattle.double.specs.Kinds.{double}
use Rattle.double.specs.Meaning.{noted}
use Rattle.double.specs.Own.{reported_by}
use Rattle.double.specs.Report.{source_of, value_of}
use Rattle.double.specs.Sources.{highest, lowest, said, served_source, takes}

-- a list has an item at each index below its length
is_some_slice_get : {A : Type 0} (xs : List A) (n : ℕ) → is_some (slice_get xs n) ≡ ltb n (length xs)
is_some_slice_get [] n = sym (le-ltb n 0 (omega arith))
is_some_slice_get (x ∷ xs) zero = sym (lt-ltb 0 (suc (length xs)) (omega arith))
is_some_slice_get (x ∷ xs) (suc n) = is_some_slice_get xs n ∙ grind (arith, nat_tests)

pub there : (n : ℕ) → is_some (source_at n) ≡ ltb n 11
there n = is_some_slice_get sources n

-- the sources of the list have the numbers from k on
abbrev in_order : ℕ → List Source → Bool
in_order k [] = true
in_order k (x ∷ xs) = eqb (source_number x) k && in_order (suc k) xs

number_in : (k : ℕ) (xs : List Source) → T (in_order k xs) → (n : ℕ) (x : Source) → slice_get xs n ≡ Some x → source_number x ≡ k + n
number_in k [] order n x e = cc
number_in k (y ∷ xs) order zero x e = let same : y ≡ x = cc in ap source_number (sym same) ∙ eqb-true (source_number y) k (is_true _ (both_parts _ _ order).0) ∙ omega arith
number_in k (y ∷ xs) order (suc n) x e = number_in (suc k) xs (both_parts (eqb (source_number y) k) _ order).1 n x e ∙ omega arith

pub number_at : (n : ℕ) (x : Source) → source_at n ≡ Some x → source_number x ≡ n
number_at n x e = number_in 0 sources tt n x e ∙ omega arith

-- what a report answers, without what is served
abbrev pub bare : {A : Type 0} → Result A Fault → Result (Unit {0}) Fault
bare (Ok x) = Ok tt
bare (Err e) = Err e

abbrev answer_by : Bool → ℤ → Option Source → Result (Unit {0}) Fault
answer_by t v o = cond t (cond (le_z (said (pos 0) lowest o) v && le_z v (said (pos 0) highest o)) (Ok tt) (refused ValueOutOfRange)) (refused NoSourceOrFan)

pub answered : (n : ℕ) (v : ℤ) (r : Result Report Fault) → result_map_both source_of (λ e. e) r ≡ served_source v (source_at n) → bare r ≡ report_answer double n v
answered n v r e = same r ∙ ap bare e ∙ sym (ap (λ t. answer_by t v (source_at n)) (sym (there n)) ∙ by (source_at n))
  where
    same : (r : Result Report Fault) → bare r ≡ bare (result_map_both source_of (λ e. e) r)
    same (Ok x) = refl
    same (Err f) = refl

    judged : (x : Source) (t : Bool) → cond t (Ok tt) (refused ValueOutOfRange) ≡ bare (cond t (Ok x) (refused ValueOutOfRange))
    judged x true = refl
    judged x false = refl

    by : (o : Option Source) → answer_by (is_some o) v o ≡ bare (served_source v o)
    by None = refl
    by (Some x) = judged x (takes x v)

-- what a served report tells of its source
served_is : (v : ℤ) (o : Option Source) (x : Source) → Ok x ≡ served_source v o → o ≡ Some x
served_is v None x e = cc
served_is v (Some y) x e = judged (takes y v) e
  where
    judged : (t : Bool) → Ok x ≡ cond t (Ok y) (refused ValueOutOfRange) → Some y ≡ Some x
    judged true f = cc
    judged false f = cc

-- what is noted of a served report is what a report of its number does
pub noted_is : (u : State double) (n : ℕ) (v : ℤ) (r : Report) → Ok (source_of r) ≡ served_source v (source_at n) → value_of r ≡ v → noted u (source_of r) (value_of r) ≡ report_in double u n v
noted_is u n v r e value = ap (noted u x) value ∙ (λ i. record {
  strap = u.strap;
  page = u.page;
  marks = (ap (λ m. put u.marks m (marked (lt_z (limit_of u.page x) v) (holds u.page x) (u.marks m))) (number_at n x is)
      ∙ ap (λ o. put u.marks n (marked (said false (λ y. lt_z (limit_of u.page y) v) o) (said false (holds u.page) o) (u.marks n))) (sym is)) i;
  own = ap (said u.own (reported_by u.page u.own v)) (sym is) i;
})
  where
    x : Source
    x = source_of r

    is : source_at n ≡ Some x
    is = served_is v (source_at n) x e

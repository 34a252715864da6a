-- What holds of the registers of any kind that gives them by a table.
use Rattle.std.proofs.Common.{◌≡◌, ℕ, ◌+◌, ◌%◌, ◌<◌, Bool, true, false, cond, not, ◌&&◌, ◌||◌, T, eqb, ltb, leb, List, [], ◌∷◌, map, is_some, Some, None, Ok, Err, Option, Result, sym, refl, ap, ◌∙◌, subst, arith}
use lib.Bits.{bit_and, and_le_l}
use Rattle.fault.specs.declared.Cause.TheVariants.{RangeCode}
use Rattle.fault.specs.declared.Fault.{Fault}
use Rattle.std.proofs.lemmas.Nat.{and_mod}
use Rattle.std.proofs.lemmas.Bool.{and_right, cond-false, ltb-true, ltb-false, le-ltb, eqb-true}
use Rattle.std.proofs.lemmas.Bool.Decides.{nat_tests}
use Rattle.quantity.proofs.Masks.{mask_again}
use Rattle.unit.specs.Answers.{refused}
use Rattle.unit.specs.Steps.{put, after}
use Rattle.unit.proofs.Served.{never}
use Rattle.registers.specs.declared.Role.{Role}
use Rattle.registers.specs.declared.Role.TheVariants.{Setting, Code, Status, Reading}
use Rattle.registers.specs.Roles.{is_reading, is_setting, is_code, is_bad_code, named_bits, answer_to, stored_as}
use Rattle.registers.specs.Tables.{Row, look, role_of, start_of, fits, all_fit, is_apart, all_apart}
use Rattle.registers.specs.Settings.{has_code, kept_as}

pub setting_present : (o : Option Role) → T (is_setting o) → is_some o ≡ true
setting_present None h = absurd h
setting_present (Some x) h = refl

pub setting_settable : (o : Option Role) → T (is_setting o) → is_reading o ≡ false
setting_settable None h = absurd h
setting_settable (Some (Setting m)) h = refl
setting_settable (Some (Code m)) h = refl
setting_settable (Some Status) h = absurd h
setting_settable (Some Reading) h = absurd h

-- a row without its byte at power-on
pub record Ranged : Type 0 where
  pub first : ℕ
  pub last : ℕ
  pub role : Role

abbrev pub ranged : Row → Ranged
ranged x = record { first = x.first; last = x.last; role = x.role }

abbrev find : List Ranged → ℕ → Option Role
find [] r = None
find (x ∷ xs) r = cond (leb x.first r && leb r x.last) (Some x.role) (find xs r)

role_found : (xs : List Row) (r : ℕ) → role_of (look xs r) ≡ find (map ranged xs) r
role_found [] r = refl
role_found (x ∷ xs) r = either (leb x.first r && leb r x.last) (role_found xs r)
  where
    either : (t : Bool) → role_of (look xs r) ≡ find (map ranged xs) r → role_of (cond t (Some x) (look xs r)) ≡ cond t (Some x.role) (find (map ranged xs) r)
    either true e = refl
    either false e = e

-- tables that differ in bytes at power-on alone give the same roles
pub same_roles : (xs ys : List Row) → map ranged xs ≡ map ranged ys → (r : ℕ) → role_of (look xs r) ≡ role_of (look ys r)
same_roles xs ys e r = role_found xs r ∙ ap (λ l. find l r) e ∙ sym (role_found ys r)

-- a write changes that setting only
pub stored_at : (o : Option Role) (s : ℕ → ℕ) (r b q : ℕ) → stored_as o s r b q ≡ cond (eqb q r && is_setting o) (named_bits o b) (s q)
stored_at o s r b q = at (is_setting o) (eqb q r) (named_bits o b)
  where
    both : (t : Bool) (v w : ℕ) → cond t v w ≡ cond (t && true) v w
    both true v w = refl
    both false v w = refl

    none : (t : Bool) (v w : ℕ) → w ≡ cond (t && false) v w
    none true v w = refl
    none false v w = refl

    at : (u t : Bool) (v : ℕ) → cond u (put s r v) s q ≡ cond (eqb q r && u) v (s q)
    at true t v = both (eqb q r) v (s q)
    at false t v = none (eqb q r) v (s q)

-- b can be a setting at a register with this role
pub record Settable (o : Option Role) (b : ℕ) : Type 0 where
  pub byte : b < 256
  pub served : answer_to o b ≡ Ok tt
  pub same : named_bits o b ≡ b

abbrev judged : Bool → Result (Unit {0}) Fault
judged bad = cond bad (refused RangeCode) (Ok tt)

good_code : (m b : ℕ) → answer_to (Some (Code m)) b ≡ Ok tt → ltb 4 (bit_and b m % 16) ≡ false
good_code m b e = within (ltb 4 (b % 16)) refl e
  where
    within : (t : Bool) → ltb 4 (b % 16) ≡ t → judged t ≡ judged false → ltb 4 (bit_and b m % 16) ≡ false
    within true is f = absurd (never f)
    within false is f =
        let small = ltb-false 4 (b % 16) is in
        let less : bit_and b m % 16 ≡ bit_and (b % 16) (m % 16) = and_mod b m 4 in
        le-ltb 4 (bit_and b m % 16) (omega (arith, and_le_l (b % 16) (m % 16)))

-- what a served write makes a setting can be written again
pub written_again : (o : Option Role) (b : ℕ) → b < 256 → T (is_setting o) → answer_to o b ≡ Ok tt → Settable o (named_bits o b)
written_again None b small h served = absurd h
written_again (Some (Setting m)) b small h served = record { byte = omega (arith, and_le_l b m); served = refl; same = mask_again b m small }
written_again (Some (Code m)) b small h served = record { byte = omega (arith, and_le_l b m); served = ap judged (good_code m b served); same = mask_again b m small }
written_again (Some Status) b small h served = absurd h
written_again (Some Reading) b small h served = absurd h

pub both_parts : (x y : Bool) → T (x && y) → T x × T y
both_parts true true h = (tt, tt)
both_parts true false h = absurd h
both_parts false y h = absurd h

pub is_true : (t : Bool) → T t → t ≡ true
is_true true h = refl
is_true false h = absurd h

fit_settable : (o : Role) (b : ℕ) → T (is_setting (Some o)) → T (ltb b 256 && (not (is_bad_code (Some o) b) && eqb (named_bits (Some o) b) b)) → Settable (Some o) b
fit_settable o b h t =
    let parts = both_parts (ltb b 256) _ t in
    let more = both_parts (not (is_bad_code (Some o) b)) _ parts.1 in
    record {
      byte = ltb-true b 256 (is_true _ parts.0);
      served = serves o h (is_bad_code (Some o) b) refl more.0;
      same = eqb-true (named_bits (Some o) b) b (is_true _ more.1);
    }
  where
    serves : (o : Role) → T (is_setting (Some o)) → (t : Bool) → is_bad_code (Some o) b ≡ t → T (not t) → answer_to (Some o) b ≡ judged false
    serves (Setting m) k t e n = refl
    serves (Code m) k true e n = absurd n
    serves (Code m) k false e n = ap judged e
    serves Status k t e n = absurd k
    serves Reading k t e n = absurd k

either_row : (t : Bool) (o p : Option Row) → (T (is_setting (role_of o)) → Settable (role_of o) (start_of o)) → (T (is_setting (role_of p)) → Settable (role_of p) (start_of p)) → T (is_setting (role_of (cond t o p))) → Settable (role_of (cond t o p)) (start_of (cond t o p))
either_row true o p f g h = f h
either_row false o p f g h = g h

-- so can the byte at power-on, in a table whose rows fit
pub first_again : (xs : List Row) (r : ℕ) → T (all_fit xs) → T (is_setting (role_of (look xs r))) → Settable (role_of (look xs r)) (start_of (look xs r))
first_again [] r all h = absurd h
first_again (x ∷ xs) r all h =
    let parts = both_parts (fits x) (all_fit xs) all in
    either_row (leb x.first r && leb r x.last) (Some x) (look xs r) (λ k. fit_settable x.role x.start k (fitting (is_setting (Some x.role)) _ k parts.0)) (first_again xs r parts.1) h
  where
    fitting : (t u : Bool) → T t → T (not t || u) → T u
    fitting true u k n = n
    fitting false u k n = absurd k

module _ (n first : ℕ) where
  look_apart : (xs : List Row) (r m : ℕ) → T (all_apart n first xs) → role_of (look xs r) ≡ Some (Setting m) → has_code n first r ≡ false
  look_apart [] r m all e = absurd (let z : ◌≡◌ {A = ℕ} 0 1 = cc in omega arith)
  look_apart (x ∷ xs) r m all e = by (leb x.first r && leb r x.last) refl (look_apart xs r m parts.1) e
    where
      parts : T (is_apart n first x) × T (all_apart n first xs)
      parts = both_parts (is_apart n first x) (all_apart n first xs) all

      by : (t : Bool) → (leb x.first r && leb r x.last) ≡ t → (role_of (look xs r) ≡ Some (Setting m) → has_code n first r ≡ false) → role_of (cond t (Some x) (look xs r)) ≡ Some (Setting m) → has_code n first r ≡ false
      by true is further f =
          let role : x.role ≡ Setting m = cc in
          let apart : (ltb x.last first || leb (first + n) x.first) ≡ true = is_true _ (subst (λ o. T (is_code o || (ltb x.last first || leb (first + n) x.first))) role parts.0) in
          grind (arith, nat_tests)
      by false is further f = further f

  -- a served write of a kind's table puts no misfit
  pub kept_stored : (xs : List Row) (s : ℕ → ℕ) (r b : ℕ) → T (all_apart n first xs) → answer_to (role_of (look xs r)) b ≡ Ok tt → kept_as n first (role_of (look xs r)) s r b ≡ stored_as (role_of (look xs r)) s r b
  kept_stored xs s r b all served = by (role_of (look xs r)) refl served
    where
      by : (o : Option Role) → role_of (look xs r) ≡ o → answer_to o b ≡ Ok tt → kept_as n first o s r b ≡ stored_as o s r b
      by None is e = refl
      by (Some (Setting m)) is e = ap (λ t. cond (t && ltb 4 (bit_and b m % 16)) s (put s r (bit_and b m))) (look_apart xs r m all is)
      by (Some (Code m)) is e = cond-false (has_code n first r && ltb 4 (bit_and b m % 16)) s (put s r (bit_and b m)) (and_right (has_code n first r) _ (good_code m b e))
      by (Some Status) is e = refl
      by (Some Reading) is e = refl

  -- what a store has after a write with the role that the table gives, in the table's words
  pub written_as : (xs : List Row) (s is : ℕ → ℕ) (r b : ℕ) (o : Option Role) (answer : Result (Unit {0}) Fault) → T (all_apart n first xs) → o ≡ role_of (look xs r) → answer ≡ answer_to o b → is ≡ after answer (kept_as n first o s r b) s → is ≡ after answer (stored_as (role_of (look xs r)) s r b) s
  written_as xs s is r b o (Ok x) all role served e =
      e ∙ ap (λ p. kept_as n first p s r b) role ∙ kept_stored xs s r b all (ap (λ p. answer_to p b) (sym role) ∙ sym served)
  written_as xs s is r b o (Err f) all role served e = e

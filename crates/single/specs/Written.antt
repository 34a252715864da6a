-- A write that a single unit serves is of a setting, and leaves the range codes alone in their bytes.
use Rattle.std.proofs.Common.{◌≡◌, ℕ, Bool, true, false, cond, not, ◌&&◌, T, bit_and, eqb, List, [], ◌∷◌, Some, None, Ok, Option, Result, sym, refl, ap, ◌∙◌}
use Rattle.std.proofs.lemmas.Bool.{cond-true}
use Rattle.fault.specs.declared.Cause.TheVariants.{RangeCode}
use Rattle.fault.specs.declared.Fault.{Fault}
use Rattle.unit.specs.Answers.{refused}
use Rattle.unit.specs.Steps.{after, put}
use Rattle.unit.proofs.Served.{never}
use Rattle.registers.specs.declared.Role.{Role}
use Rattle.registers.specs.declared.Role.TheVariants.{Setting, Code, Status, Reading}
use Rattle.registers.specs.Roles.{answer_to, is_bad_code, is_setting, named_bits, stored_as}
use Rattle.registers.specs.Tables.{Row, look, role_of}
use Rattle.registers.proofs.Laws.{both_parts, stored_at}
use Rattle.single.specs.Registers.{role_at, rows}
use Rattle.single.specs.Settings.{stored_in}

abbrev is_status : Option Role → Bool
is_status None = false
is_status (Some (Setting m)) = false
is_status (Some (Code m)) = false
is_status (Some Status) = true
is_status (Some Reading) = false

abbrev none_is_status : List Row → Bool
none_is_status [] = true
none_is_status (x ∷ xs) = not (is_status (Some x.role)) && none_is_status xs

no_status : (xs : List Row) (r : ℕ) → T (none_is_status xs) → T (not (is_status (role_of (look xs r))))
no_status [] r t = tt
no_status (x ∷ xs) r t =
    let parts = both_parts (not (is_status (Some x.role))) (none_is_status xs) t in
    either _ parts.0 (no_status xs r parts.1)
  where
    either : (here : Bool) → T (not (is_status (Some x.role))) → T (not (is_status (role_of (look xs r)))) → T (not (is_status (role_of (cond here (Some x) (look xs r)))))
    either true t u = t
    either false t u = u

-- every other register that takes writes has a setting
served_setting : (o : Option Role) (b : ℕ) → T (not (is_status o)) → answer_to o b ≡ Ok tt → is_setting o ≡ true
served_setting None b t e = absurd (never e)
served_setting (Some (Setting m)) b t e = refl
served_setting (Some (Code m)) b t e = refl
served_setting (Some Status) b t e = absurd t
served_setting (Some Reading) b t e = absurd (never e)

pub stores : (s : ℕ → ℕ) (r b : ℕ) → answer_to (role_at r) b ≡ Ok tt → stored_as (role_at r) s r b ≡ put s r (named_bits (role_at r) b)
stores s r b e = cond-true (is_setting (role_at r)) _ _ (served_setting (role_at r) b (no_status rows r tt) e)

pub stored : (s : ℕ → ℕ) (r b q : ℕ) → answer_to (role_at r) b ≡ Ok tt → put s r (named_bits (role_at r) b) q ≡ cond (eqb q r && is_setting (role_at r)) (named_bits (role_at r) b) (s q)
stored s r b q e = ap (λ f. f q) (sym (stores s r b e)) ∙ stored_at (role_at r) s r b q

abbrev code_answer : Bool → Result (Unit {0}) Fault
code_answer bad = cond bad (refused RangeCode) (Ok tt)

either_code : (s t : ℕ → ℕ) (bad : Bool) → after (code_answer bad) t s ≡ cond (not bad) t s
either_code s t true = refl
either_code s t false = refl

-- a write that is refused leaves the settings, and any other changes one, whichever role but a status the register has
kept_or_stored : (o : Option Role) (s : ℕ → ℕ) (r b : ℕ) → T (not (is_status o)) → after (answer_to o b) (put s r (named_bits o b)) s ≡ cond (is_setting o && not (is_bad_code o b)) (put s r (named_bits o b)) s
kept_or_stored None s r b t = refl
kept_or_stored (Some (Setting m)) s r b t = refl
kept_or_stored (Some (Code m)) s r b t = either_code s (put s r (bit_and b m)) (is_bad_code (Some (Code m)) b)
kept_or_stored (Some Status) s r b t = absurd t
kept_or_stored (Some Reading) s r b t = refl

pub stores_if : (s : ℕ → ℕ) (r b : ℕ) → after (answer_to (role_at r) b) (put s r (named_bits (role_at r) b)) s ≡ stored_in s r b
stores_if s r b = kept_or_stored (role_at r) s r b (no_status rows r tt)

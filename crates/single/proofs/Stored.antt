-- What the store of a single unit has after power-on and after a write, in the words of its table.
use Rattle.std.proofs.Common.{◌≡◌, ℕ, ◌<◌, Bool, true, false, cond, eqb, Ok, Err, Option, Result, sym, refl, ap, ◌∙◌, subst, arith}
use Rattle.std.proofs.lemmas.Nat.{and_le_r}
use Rattle.std.proofs.lemmas.Bool.{cond-false, eqb-true}
use Rattle.std.proofs.lemmas.Bool.Decides.{nat_tests}
use Rattle.fault.specs.declared.Fault.{Fault}
use Rattle.unit.specs.Steps.{after, put}
use Rattle.registers.specs.Roles.{answer_to, named_bits}
use Rattle.registers.specs.Settings.{filled, is_misfit, kept, kept_as}
use Rattle.registers.specs.declared.Role.{Role}
use Rattle.registers.proofs.Laws.{written_as}
use Rattle.registers.proofs.PowerOn.{start_filled}
use Rattle.single.specs.Registers.{LoneCodes, first_bytes, power_on_byte, role_at, rows}
use Rattle.single.specs.Settings.{has_room, stored_in}
use Rattle.single.specs.Written.{stores, stores_if}

pub first_settings : filled 2 0x1a (λ _. 0) first_bytes ≡ power_on_byte
first_settings = start_filled 2 0x1a rows first_bytes tt

pub lone_first : (s : ℕ → ℕ) → s ≡ power_on_byte → LoneCodes s
lone_first s e = subst LoneCodes (sym e) (record { local = omega arith; remote = omega arith })

module _ (s is : ℕ → ℕ) (r b : ℕ) where
  pub written : (o : Option Role) (answer : Result (Unit {0}) Fault) → o ≡ role_at r → answer ≡ answer_to o b → is ≡ after answer (kept_as 2 0x1a o s r b) s → is ≡ after answer (put s r (named_bits (role_at r) b)) s
  written o (Ok x) role served e = written_as 2 0x1a rows s is r b o (Ok x) tt role served e ∙ stores s r b (ap (λ p. answer_to p b) (sym role) ∙ sym served)
  written o (Err f) role served e = e

  pub written_if : (answer : Result (Unit {0}) Fault) → answer ≡ answer_to (role_at r) b → is ≡ after answer (put s r (named_bits (role_at r) b)) s → is ≡ stored_in s r b
  written_if answer served e = e ∙ ap (λ a. after a (put s r (named_bits (role_at r) b)) s) served ∙ stores_if s r b

  pub lone_written : (answer : Result (Unit {0}) Fault) → LoneCodes s → is ≡ after answer (put s r (named_bits (role_at r) b)) s → LoneCodes is
  lone_written (Ok x) lone e = subst LoneCodes (sym e) (record { local = at 0x1a lone.local (omega (arith, and_le_r b 0x0f)); remote = at 0x1b lone.remote (omega (arith, and_le_r b 0x0f)) })
    where
      at : (q : ℕ) → s q < 16 → named_bits (role_at q) b < 16 → put s r (named_bits (role_at r) b) q < 16
      at q was named = by (eqb q r) refl
        where
          by : (t : Bool) → eqb q r ≡ t → cond t (named_bits (role_at r) b) (s q) < 16
          by true e = subst (λ n. named_bits (role_at n) b < 16) (eqb-true q r e) named
          by false e = was
  lone_written (Err f) lone e = subst LoneCodes (sym e) lone

  pub kept_placed : has_room r b ≡ true → kept 2 0x1a s r b ≡ put s r b
  kept_placed room = cond-false (is_misfit 2 0x1a r b) s (put s r b) (grind (arith, nat_tests))

  pub lone_placed : LoneCodes s → has_room r b ≡ true → is ≡ kept 2 0x1a s r b → LoneCodes is
  lone_placed lone room e = subst LoneCodes (sym (e ∙ kept_placed room)) (record { local = at 0x1a lone.local (grind (arith, nat_tests)); remote = at 0x1b lone.remote (grind (arith, nat_tests)) })
    where
      at : (q : ℕ) → s q < 16 → (q ≡ r → b < 16) → put s r b q < 16
      at q was small = by (eqb q r) refl
        where
          by : (t : Bool) → eqb q r ≡ t → cond t b (s q) < 16
          by true e = small (eqb-true q r e)
          by false e = was

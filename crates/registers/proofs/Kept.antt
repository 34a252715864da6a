-- Settings that are kept in two places, as one function of the register.
use Rattle.std.proofs.Common.{◌≡◌, ℕ, zero, suc, ◌+◌, ◌-◌, ◌*◌, ◌/◌, ◌%◌, ◌<◌, ◌≤◌, Bool, true, false, cond, List, map, length, get_or, set, replicate, refl, ap, ◌∙◌, arith}
use Rattle.control.specs.declared.range.Range.{Range}
use Rattle.std.proofs.lemmas.List.{length-map, map-set}
use Rattle.std.proofs.lemmas.Bool.Decides.{nat_tests}
use Rattle.unit.specs.Steps.{put}
use Rattle.unit.proofs.Parts.{set-put}
use Rattle.registers.specs.Settings.{code_in, has_code, kept, overlaid}

pub code_set : (xs : List Range) (i : ℕ) (x : Range) → i < length xs → code_in (set xs i x) ≡ put (code_in xs) i x.code
code_set xs i x h = ap (λ l n. get_or l n 0) (map-set (λ y. y.code) xs i x) ∙ set-put 0 (map (λ y. y.code) xs) i x.code (simp length-map h)

module _ (n first : ℕ) (codes f : ℕ → ℕ) (r b : ℕ) where
  pub put_plain : has_code n first r ≡ false → overlaid n first codes (put f r b) ≡ kept n first (overlaid n first codes f) r b
  put_plain none = λ i q. at q i
    where
      at : (q : ℕ) → overlaid n first codes (put f r b) q ≡ kept n first (overlaid n first codes f) r b q
      at q = grind (arith, nat_tests)

  pub put_code : has_code n first r ≡ true → b % 16 ≤ 4 → overlaid n first (put codes (r - first) (b % 16)) (put f r b) ≡ kept n first (overlaid n first codes f) r b
  put_code has small = λ i q. at q i
    where
      at : (q : ℕ) → overlaid n first (put codes (r - first) (b % 16)) (put f r b) q ≡ kept n first (overlaid n first codes f) r b q
      at q = grind (arith, nat_tests)

-- all zero

pub codes_none : (n : ℕ) (x : Range) → x.code ≡ 0 → code_in (replicate n x) ≡ (λ _. 0)
codes_none n x e = λ i k. at n k i
  where
    at : (n k : ℕ) → code_in (replicate n x) k ≡ 0
    at zero k = refl
    at (suc n) zero = e
    at (suc n) (suc k) = at n k

pub zero_none : (n first : ℕ) → overlaid n first (λ _. 0) (λ _. 0) ≡ (λ _. 0)
zero_none n first = λ i r. at (has_code n first r) i
  where
    at : (t : Bool) → cond t (0 / 16 * 16 + 0) 0 ≡ 0
    at true = refl
    at false = refl

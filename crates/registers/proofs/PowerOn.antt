-- A table's bytes at power-on, against bytes that are put at their registers: one computed test tells that they agree.
use Rattle.std.proofs.Common.{◌≡◌, ℕ, zero, suc, ◌<◌, ◌≤◌, Bool, true, false, cond, ◌&&◌, T, eqb, ltb, leb, List, [], ◌∷◌, Some, sym, refl, ap, ◌∙◌, ⊎_elim, arith}
use Rattle.std.proofs.lemmas.Bool.{and_right, cases_lt, cond-false, eqb-true, lt-leb, ltb-true, ne_eqb}
use Rattle.unit.specs.Steps.{put}
use Rattle.registers.specs.Settings.{filled, is_misfit, kept}
use Rattle.registers.specs.Tables.{Row, look, start_of}
use Rattle.registers.proofs.Laws.{both_parts, is_true}

abbrev agree : ℕ → (ℕ → ℕ) → (ℕ → ℕ) → Bool
agree zero f g = true
agree (suc n) f g = eqb (f n) (g n) && agree n f g

agreed : (n : ℕ) (f g : ℕ → ℕ) → T (agree n f g) → (r : ℕ) → r < n → f r ≡ g r
agreed zero f g t r h = absurd (omega arith)
agreed (suc n) f g t r h =
    let parts = both_parts (eqb (f n) (g n)) (agree n f g) t in
    ⊎_elim
    (λ less. agreed n f g parts.1 r less)
    (λ here. let same : r ≡ n = omega arith in ap f same ∙ eqb-true (f n) (g n) (is_true _ parts.0) ∙ ap g (omega arith))
    (cases_lt r n)

abbrev rows_below : List Row → Bool
rows_below [] = true
rows_below (x ∷ xs) = ltb x.last 256 && rows_below xs

abbrev bytes_below : List (ℕ × ℕ) → Bool
bytes_below [] = true
bytes_below (x ∷ xs) = ltb x.0 256 && bytes_below xs

start_past : (xs : List Row) → T (rows_below xs) → (r : ℕ) → 256 ≤ r → start_of (look xs r) ≡ 0
start_past [] t r h = refl
start_past (x ∷ xs) t r h =
    let parts = both_parts (ltb x.last 256) (rows_below xs) t in
    let below = ltb-true x.last 256 (is_true _ parts.0) in
    ap start_of (cond-false (leb x.first r && leb r x.last) (Some x) (look xs r) (and_right (leb x.first r) _ (lt-leb r x.last (omega arith))))
    ∙ start_past xs parts.1 r h

module _ (n first : ℕ) where
  filled_past : (xs : List (ℕ × ℕ)) → T (bytes_below xs) → (s : ℕ → ℕ) (r : ℕ) → 256 ≤ r → filled n first s xs r ≡ s r
  filled_past [] t s r h = refl
  filled_past (x ∷ xs) t s r h =
      let parts = both_parts (ltb x.0 256) (bytes_below xs) t in
      filled_past xs parts.1 (kept n first s x.0 x.1) r h
      ∙ other (is_misfit n first x.0 x.1) (ltb-true x.0 256 (is_true _ parts.0))
    where
      other : (t : Bool) → x.0 < 256 → cond t s (put s x.0 x.1) r ≡ s r
      other true below = refl
      other false below = cond-false (eqb r x.0) x.1 (s r) (ne_eqb r x.0 (λ e. omega arith))

  abbrev pub starts_as : List Row → List (ℕ × ℕ) → Bool
  starts_as rows bytes = rows_below rows && (bytes_below bytes && agree 256 (filled n first (λ _. 0) bytes) (λ r. start_of (look rows r)))

  pub start_filled : (rows : List Row) (bytes : List (ℕ × ℕ)) → T (starts_as rows bytes) → filled n first (λ _. 0) bytes ≡ (λ r. start_of (look rows r))
  start_filled rows bytes t = λ i r. at r i
    where
      parts : T (rows_below rows) × T (bytes_below bytes && agree 256 (filled n first (λ _. 0) bytes) (λ r. start_of (look rows r)))
      parts = both_parts (rows_below rows) _ t

      more : T (bytes_below bytes) × T (agree 256 (filled n first (λ _. 0) bytes) (λ r. start_of (look rows r)))
      more = both_parts (bytes_below bytes) _ parts.1

      at : (r : ℕ) → filled n first (λ _. 0) bytes r ≡ start_of (look rows r)
      at r =
          ⊎_elim
          (λ below. agreed 256 (filled n first (λ _. 0) bytes) (λ q. start_of (look rows q)) more.1 r below)
          (λ past. filled_past bytes more.0 (λ _. 0) r past ∙ sym (start_past rows parts.0 r past))
          (cases_lt r 256)

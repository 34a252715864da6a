-- What an iterator over the numbers below n gives, against the same by recursion on n.
use Rattle.std.proofs.Common.{◌≡◌, ℕ, zero, suc, ◌+◌, Bool, true, false, ◌||◌, [], ◌∷◌, ◌++◌, max, refl, ap, ◌∙◌, arith}
use Rattle.std.proofs.lemmas.List.Folds.{list_any-append}
use Rattle.std.proofs.lemmas.List.Sums.{fold-append}
use Rattle.std.specs.List.{list_any, range_with_len, fold}
use Rattle.unit.specs.Levels.{some, greatest}

range_more : (a n last : ℕ) → a + n ≡ last → range_with_len a (suc n) ≡ range_with_len a n ++ (last ∷ [])
range_more a zero last e = ap (λ k. k ∷ []) (omega arith)
range_more a (suc n) last e = ap (λ xs. a ∷ xs) (range_more (a + 1) n last (omega arith))

pub any_some : (n : ℕ) (p : ℕ → Bool) → list_any p (range_with_len 0 n) ≡ some n p
any_some zero p = refl
any_some (suc n) p =
    ap (list_any p) (range_more 0 n n (omega arith)) ∙ list_any-append p (range_with_len 0 n) (n ∷ []) ∙ ap (λ b. b || (p n || false)) (any_some n p) ∙ last (some n p) (p n)
  where
    last : (b c : Bool) → (b || (c || false)) ≡ (c || b)
    last true true = refl
    last true false = refl
    last false true = refl
    last false false = refl

pub max_greatest : (n : ℕ) (f : ℕ → ℕ) → fold (λ a x. max a (f x)) 0 (range_with_len 0 n) ≡ greatest n f
max_greatest zero f = refl
max_greatest (suc n) f =
    ap (fold (λ a x. max a (f x)) 0) (range_more 0 n n (omega arith)) ∙ fold-append (λ a x. max a (f x)) 0 (range_with_len 0 n) (n ∷ []) ∙ ap (λ top. max top (f n)) (max_greatest n f) ∙ omega arith

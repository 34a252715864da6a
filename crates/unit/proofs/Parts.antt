-- Lists read as functions of the index.
use Rattle.std.proofs.Common.{◌≡◌, ℕ, zero, suc, ◌+◌, ◌<◌, ◌≤◌, Bool, cond, eqb, ltb, List, length, get_or, set, replicate, sym, refl, ap, ◌∙◌, ⊎_elim, arith}
use Rattle.std.proofs.lemmas.List.{get_or_past, get_or-set_same, get_or-set_other}
use Rattle.std.proofs.lemmas.Bool.{cases_eq, cases_lt, eq-eqb, ne_eqb, lt-ltb, le-ltb, cond-true, cond-false}
use Rattle.unit.specs.Kind.{clear}
use Rattle.unit.specs.Parts.{marks_of}
use Rattle.unit.specs.Steps.{put, ended}
use Rattle.unit.specs.declared.marks.Marks.{Marks}

-- a list of one value is that value at every index
pub all_same : {A : Type 0} (n : ℕ) (a : A) (i : ℕ) → get_or (replicate n a) i a ≡ a
all_same zero a i = refl
all_same (suc n) a zero = refl
all_same (suc n) a (suc i) = all_same n a i

-- a list after `set`, read as a function, is `put` of the function
pub set-put : {A : Type 0} (d : A) (xs : List A) (k : ℕ) (v : A) → k < length xs → (λ n. get_or (set xs k v) n d) ≡ put (λ n. get_or xs n d) k v
set-put d xs k v h = λ i n. at n i
  where
    at : (n : ℕ) → get_or (set xs k v) n d ≡ cond (eqb n k) v (get_or xs n d)
    at n =
        ⊎_elim
        (λ same. ap (λ m. get_or (set xs k v) m d) same ∙ get_or-set_same xs k v d h ∙ sym (cond-true (eqb n k) v (get_or xs n d) (eq-eqb n k same)))
        (λ other. get_or-set_other xs k n v d other ∙ sym (cond-false (eqb n k) v (get_or xs n d) (ne_eqb n k other)))
        (cases_eq n k)

-- f applied below i: what a loop over the indices has done so far
abbrev pub up_to : {A : Type 0} → (ℕ → A → A) → (ℕ → A) → ℕ → ℕ → A
up_to f g i = λ n. cond (ltb n i) (f n (g n)) (g n)

pub up_to_none : {A : Type 0} (f : ℕ → A → A) (g : ℕ → A) → up_to f g 0 ≡ g
up_to_none f g = λ i n. cond-false (ltb n 0) (f n (g n)) (g n) (le-ltb n 0 (omega arith)) i

pub up_to_more : {A : Type 0} (f : ℕ → A → A) (g : ℕ → A) (i : ℕ) → put (up_to f g i) i (f i (up_to f g i i)) ≡ up_to f g (i + 1)
up_to_more f g i = λ j n. at n j
  where
    here : up_to f g i i ≡ g i
    here = cond-false (ltb i i) (f i (g i)) (g i) (le-ltb i i (omega arith))

    at : (n : ℕ) → put (up_to f g i) i (f i (up_to f g i i)) n ≡ up_to f g (i + 1) n
    at n =
        ⊎_elim
        (λ same. cond-true (eqb n i) _ _ (eq-eqb n i same) ∙ ap (f i) here ∙ ap (λ k. f k (g k)) (sym same) ∙ sym (cond-true (ltb n (i + 1)) (f n (g n)) (g n) (lt-ltb n (i + 1) (omega arith))))
        (λ other.
        cond-false (eqb n i) _ _ (ne_eqb n i other)
        ∙ ⊎_elim
        (λ less. cond-true (ltb n i) (f n (g n)) (g n) (lt-ltb n i less) ∙ sym (cond-true (ltb n (i + 1)) (f n (g n)) (g n) (lt-ltb n (i + 1) (omega arith))))
        (λ more. cond-false (ltb n i) (f n (g n)) (g n) (le-ltb n i more) ∙ sym (cond-false (ltb n (i + 1)) (f n (g n)) (g n) (le-ltb n (i + 1) (let past : i < n = omega arith in omega arith))))
        (cases_lt n i))
        (cases_eq n i)

-- ending holds below N ends all that N marks have: the others are clear
pub ended_all : {N : ℕ} (x : Marks N) (over : ℕ → Bool) → up_to (λ n m. ended (over n) m) (marks_of x) N ≡ (λ n. ended (over n) (marks_of x n))
ended_all {N} x over = λ i n. at n i
  where
    at : (n : ℕ) → up_to (λ n m. ended (over n) m) (marks_of x) N n ≡ ended (over n) (marks_of x n)
    at n =
        ⊎_elim
        (λ less. cond-true (ltb n N) _ _ (lt-ltb n N less))
        (λ more.
        let past : length x.records ≤ n = omega (arith, x.full) in
        cond-false (ltb n N) _ _ (le-ltb n N more) ∙ get_or_past x.records n clear past ∙ ap (ended (over n)) (sym (get_or_past x.records n clear past)))
        (cases_lt n N)

-- One line of a list, and the lines after it.
use Rattle.std.proofs.Common.{◌≡◌, ℕ, zero, suc, ◌+◌, ◌<◌, ◌≤◌, Bool, true, false, cond, eqb, List, [], ◌∷◌, length, get_or, take, drop, sym, refl, ap, ◌∙◌, subst, ⊎_elim, arith, length-drop}
use Rattle.fault.specs.declared.Place.{Place}
use Rattle.std.proofs.lemmas.List.{drop-drop, at_drop_all, length-take-le}
use Rattle.std.proofs.lemmas.Bool.{cases_lt}
use Rattle.std.proofs.lemmas.Bool.Decides.{nat_tests}
use Rattle.setup.specs.Lines.{onto, lines, TextAt, past, lay_out, laid}
use Rattle.setup.specs.Reading.{none, place_after}

-- how many bytes stand before the first newline
abbrev up_to : List ℕ → ℕ
up_to [] = 0
up_to (b ∷ bs) = cond (eqb b 10) 0 (suc (up_to bs))

-- n bytes stand before the first newline of bs, or before its end
pub record Line (bs : List ℕ) (n : ℕ) : Type 0 where
  pub within : n ≤ length bs
  pub before : (k : ℕ) → k < n → get_or bs k 0 ≡ 10 → ⊥
  pub newline : n < length bs → get_or bs n 0 ≡ 10

up_to_is : (bs : List ℕ) (n : ℕ) → Line bs n → n ≡ up_to bs
up_to_is [] n h = omega (arith, h.within)
up_to_is (b ∷ bs) zero h = let here : b ≡ 10 = h.newline (omega arith) in grind (arith, nat_tests)
up_to_is (b ∷ bs) (suc n) h =
    let other = h.before zero (omega arith) in
    let more = up_to_is bs n (record { within = omega (arith, h.within); before = λ k lt. h.before (suc k) (omega arith); newline = λ lt. h.newline (omega arith) }) in
    grind (arith, nat_tests)

lines_from : (t : Bool) (b : ℕ) (bs : List ℕ) → (0 < length bs → lines bs ≡ take (up_to bs) bs ∷ lines (drop (suc (up_to bs)) bs)) → cond t ([] ∷ lines bs) (onto b (lines bs)) ≡ take (cond t 0 (suc (up_to bs))) (b ∷ bs) ∷ lines (drop (suc (cond t 0 (suc (up_to bs)))) (b ∷ bs))
lines_from true b bs more = refl
lines_from false b [] more = refl
lines_from false b (d ∷ bs) more = ap (onto b) (more (omega arith))

pub lines_more : (bs : List ℕ) → 0 < length bs → lines bs ≡ take (up_to bs) bs ∷ lines (drop (suc (up_to bs)) bs)
lines_more [] h = absurd (omega arith)
lines_more (b ∷ bs) h = lines_from (eqb b 10) b bs (lines_more bs)

pub none_ahead : (p : Place) (list : List ℕ) → length list ≤ p.offset → lay_out p (lines (drop p.offset list)) ≡ []
none_ahead p list h = at_drop_all (λ bs. lay_out p (lines bs)) list p.offset h

some_ahead : (p : Place) (list : List ℕ) → p.offset < length list → none (lay_out p (lines (drop p.offset list))) ≡ false
some_ahead p list h = ap (λ ls. none (lay_out p ls)) (lines_more (drop p.offset list) (simp length-drop (omega arith)))

pub one_ahead : (p : Place) (list : List ℕ) (n : ℕ) → p.offset < length list → Line (drop p.offset list) n → lay_out p (lines (drop p.offset list)) ≡ record { place = p; line = take n (drop p.offset list) } ∷ lay_out (place_after p (p.offset + n) (length list)) (lines (drop (place_after p (p.offset + n) (length list)).offset list))
one_ahead p list n more line =
    let bs = drop p.offset list in
    let some : 0 < length bs = simp length-drop (omega arith) in
    let size : length (take n bs) ≡ n = length-take-le n bs line.within in
    let cut : lines bs ≡ take n bs ∷ lines (drop (suc n) bs) = rw (up_to_is bs n line) (lines_more bs some) in
    let further : drop (suc n) bs ≡ drop (p.offset + n + 1) list = drop-drop (suc n) p.offset list ∙ ap (λ k. drop k list) (omega arith) in
    let next : ℕ = (place_after p (p.offset + n) (length list)).offset in
    let at : ℕ → Place = λ o. record { line = p.line + 1; offset = o } in
    let onward : lay_out (at (p.offset + n + 1)) (lines (drop (p.offset + n + 1) list)) ≡ lay_out (at next) (lines (drop next list)) =
    ⊎_elim
    (λ inside. let e : p.offset + n + 1 ≡ next = grind (arith, nat_tests) in ap (λ o. lay_out (at o) (lines (drop o list))) e)
    (λ over. let e : next ≡ p.offset + n = grind (arith, nat_tests) in none_ahead (at (p.offset + n + 1)) list (omega arith) ∙ sym (none_ahead (at next) list (omega arith)))
    (cases_lt (p.offset + n) (length list)) in
    ap (lay_out p) cut
    ∙ (λ i. record { place = p; line = take n bs } ∷ lay_out (at (p.offset + size i + 1)) (lines (further i)))
    ∙ ap (λ ts. record { place = p; line = take n bs } ∷ ts) onward

pub none_left : (p : Place) (list : List ℕ) → p.offset ≤ length list → eqb p.offset (length list) ≡ none (lay_out p (lines (drop p.offset list)))
none_left p list h =
    let over : length list ≤ p.offset → lay_out p (lines (drop p.offset list)) ≡ [] = none_ahead p list in
    let inside : p.offset < length list → none (lay_out p (lines (drop p.offset list))) ≡ false = some_ahead p list in
    grind (arith, nat_tests)

-- a reader that has lines ahead is not at the end of its list
pub some_left : (p : Place) (list : List ℕ) (ahead : List TextAt) → lay_out p (lines (drop p.offset list)) ≡ ahead → none ahead ≡ false → p.offset < length list
some_left p list ahead view some = let over : length list ≤ p.offset → lay_out p (lines (drop p.offset list)) ≡ [] = none_ahead p list in grind arith

lines_few : (bs : List ℕ) → length (lines bs) ≤ length bs
lines_few [] = omega arith
lines_few (b ∷ bs) = let few = lines_few bs in grind (arith, nat_tests)

pub length-laid : (p : Place) (ls : List (List ℕ)) → length (lay_out p ls) ≡ length ls
length-laid p [] = refl
length-laid p (l ∷ ls) = ap suc (length-laid (past p l) ls)

-- no more lines than bytes
pub laid_few : (bs : List ℕ) → length (laid bs) ≤ length bs
laid_few bs = omega (arith, length-laid (record { line = 1; offset = 0 }) (lines bs), lines_few bs)

-- nor are more lines ahead of a place in a list than the list has bytes
pub ahead_few : (p : Place) (list : List ℕ) (ahead : List TextAt) → lay_out p (lines (drop p.offset list)) ≡ ahead → length ahead ≤ length list
ahead_few p list ahead view =
    subst (λ ts. length ts ≤ length list) view
    (simp (length-laid p (lines (drop p.offset list))) (let few = lines_few (drop p.offset list) in let size = length-drop p.offset list in omega (arith, few, size)))

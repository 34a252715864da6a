-- The lines of a list are cut as they should be.
use Rattle.std.proofs.Common.{◌≡◌, ℕ, suc, ◌+◌, ◌<◌, ◌≤◌, Bool, true, false, cond, eqb, ◌⊎◌, List, [], ◌∷◌, ◌++◌, length, take, drop, sym, refl, ap, ◌∙◌, subst, inl, inr, ⊎_elim, append_assoc, append-nil, arith, length-append, length-drop}
use Rattle.std.specs.List.{AllByRecursion}
use Rattle.std.proofs.lemmas.List.{take_at, drop_at, drop-append-le, take-append-le, same_from_push}
use Rattle.std.proofs.lemmas.Bool.{eqb-true, eqb-false, ne_eqb, cases_eq}
use Rattle.fault.specs.declared.Place.{Place}
use Rattle.setup.specs.Lines.{onto, lines, TextAt, past, lay_out, laid}
use Rattle.setup.specs.Cutting.{Unended, texts, rejoined, Stands, Cut}
use Rattle.setup.proofs.Lined.{lines_more}

-- a byte in front of a list that is not empty goes in front of its first line, or is an empty line's newline
one_byte : (t : Bool) (b : ℕ) (ls : List (List ℕ)) → 0 < length ls → (t ≡ true → b ≡ 10) → rejoined (cond t ([] ∷ ls) (onto b ls)) ≡ b ∷ rejoined ls
one_byte t b ls some newline = grind arith

pub some_lines : (bs : List ℕ) → 0 < length bs → 0 < length (lines bs)
some_lines bs h = omega (arith, ap length (lines_more bs h))

pub rejoined_back : (front : List ℕ) (b : ℕ) → rejoined (lines (front ++ b ∷ [])) ≡ front ++ rejoined (lines (b ∷ []))
rejoined_back [] b = refl
rejoined_back (a ∷ front) b =
    one_byte (eqb a 10) a (lines (front ++ b ∷ [])) (some_lines (front ++ b ∷ []) (simp length-append (omega arith))) (eqb-true a 10)
    ∙ ap (λ bs. a ∷ bs) (rejoined_back front b)

last_byte : (bs : List ℕ) → (bs ≡ []) ⊎ ((front : List ℕ) × (b : ℕ) × (bs ≡ front ++ b ∷ []))
last_byte [] = inl refl
last_byte (b ∷ bs) =
    ⊎_elim
    (λ none. inr ([], b, ap (λ l. b ∷ l) none))
    (λ some. inr (b ∷ some.0, some.1, ap (λ l. b ∷ l) some.2))
    (last_byte bs)

rejoined_unended : (bs : List ℕ) → Unended bs → rejoined (lines bs) ≡ bs ++ 10 ∷ []
rejoined_unended bs (front, b, e, other) =
    let other_byte = ne_eqb b 10 other in
    let last : rejoined (lines (b ∷ [])) ≡ b ∷ 10 ∷ [] = rw other_byte in
    subst (λ l. rejoined (lines l) ≡ l ++ 10 ∷ []) (sym e) (rejoined_back front b ∙ ap (λ l. front ++ l) last ∙ sym (append_assoc front (b ∷ []) (10 ∷ [])))

rejoined_ended : (bs : List ℕ) → (Unended bs → ⊥) → rejoined (lines bs) ≡ bs
rejoined_ended bs not-open =
    ⊎_elim
    (λ none. subst (λ l. rejoined (lines l) ≡ l) (sym none) refl)
    (λ some.
    ⊎_elim
    (λ newline. subst (λ l. rejoined (lines l) ≡ l) (sym some.2) (rejoined_back some.0 some.1 ∙ ap (λ b. some.0 ++ rejoined (lines (b ∷ []))) newline ∙ ap (λ b. some.0 ++ b ∷ []) (sym newline)))
    (λ other. absurd (not-open (some.0, some.1, some.2, other)))
    (cases_eq some.1 10))
    (last_byte bs)

single_from : (t : Bool) (b : ℕ) (ls : List (List ℕ)) → (t ≡ false → b ≡ 10 → ⊥) → AllByRecursion (AllByRecursion (λ c. c ≡ 10 → ⊥)) ls → AllByRecursion (AllByRecursion (λ c. c ≡ 10 → ⊥)) (cond t ([] ∷ ls) (onto b ls))
single_from t b ls other h = grind arith

-- no line has a newline in it
pub single_lines : (bs : List ℕ) → AllByRecursion (AllByRecursion (λ c. c ≡ 10 → ⊥)) (lines bs)
single_lines [] = tt
single_lines (b ∷ bs) = single_from (eqb b 10) b (lines bs) (eqb-false b 10) (single_lines bs)

-- a list has the lines that it has with its last newline added
unended_lines : (front : List ℕ) (b : ℕ) → (b ≡ 10 → ⊥) → lines (front ++ b ∷ 10 ∷ []) ≡ lines (front ++ b ∷ [])
unended_lines [] b other = let other_byte = ne_eqb b 10 other in rw other_byte
unended_lines (a ∷ front) b other = ap (λ ls. cond (eqb a 10) ([] ∷ ls) (onto a ls)) (unended_lines front b other)

pub newline_lines : (bs : List ℕ) → Unended bs → lines (bs ++ 10 ∷ []) ≡ lines bs
newline_lines bs (front, b, e, other) =
    subst (λ l. lines (l ++ 10 ∷ []) ≡ lines l) (sym e) (ap lines (append_assoc front (b ∷ []) (10 ∷ [])) ∙ unended_lines front b other)

texts_laid : (p : Place) (ls : List (List ℕ)) → texts (lay_out p ls) ≡ ls
texts_laid p [] = refl
texts_laid p (l ∷ ls) = ap (λ ts. l ∷ ts) (texts_laid (past p l) ls)

single_laid : (p : Place) (ls : List (List ℕ)) → AllByRecursion (AllByRecursion (λ c. c ≡ 10 → ⊥)) ls → AllByRecursion (λ t. AllByRecursion (λ c. c ≡ 10 → ⊥) t.line) (lay_out p ls)
single_laid p [] h = tt
single_laid p (l ∷ ls) h = (h.0, single_laid (past p l) ls h.1)

-- a line's place counts the lines and the bytes before it
place_laid : (p : Place) (ls : List (List ℕ)) (before after : List TextAt) (t : TextAt) → lay_out p ls ≡ before ++ t ∷ after → (t.place.line ≡ p.line + length before) × (t.place.offset ≡ p.offset + length (rejoined (texts before)))
place_laid p [] [] after t e = cc
place_laid p [] (u ∷ before) after t e = cc
place_laid p (l ∷ ls) [] after t e = let same : p ≡ t.place = cc in (omega (arith, ap (λ q. q.line) same), omega (arith, ap (λ q. q.offset) same))
place_laid p (l ∷ ls) (u ∷ before) after t e =
    let size : length l ≡ length u.line = cc in
    let more = place_laid (past p l) ls before after t (cc) in
    (omega (arith, more.0), simp length-append (omega (arith, more.1)))

split : (before after : List TextAt) (t : TextAt) → rejoined (texts (before ++ t ∷ after)) ≡ rejoined (texts before) ++ (t.line ++ (10 ∷ rejoined (texts after)))
split [] after t = append_assoc t.line (10 ∷ []) (rejoined (texts after))
split (u ∷ before) after t =
    ap (λ bs. (u.line ++ 10 ∷ []) ++ bs) (split before after t)
    ∙ sym (append_assoc (u.line ++ 10 ∷ []) (rejoined (texts before)) (t.line ++ (10 ∷ rejoined (texts after))))

-- of a list in two parts and more, the second part, read off the list or off the list with one byte more
middle : (bs end front mid back : List ℕ) → bs ++ end ≡ front ++ (mid ++ (10 ∷ back)) → length end ≤ 1 → take (length mid) (drop (length front) bs) ≡ mid
middle bs end front mid back e short =
    let size : length bs + length end ≡ length front + (length mid + suc (length back)) = simp length-append at (ap length e) in
    let within : length front ≤ length bs = omega arith in
    let rest : drop (length front) bs ++ end ≡ mid ++ (10 ∷ back) = sym (drop-append-le (length front) bs end within) ∙ ap (drop (length front)) e ∙ drop_at front (mid ++ (10 ∷ back)) (length front) refl in
    let inside : length mid ≤ length (drop (length front) bs) = simp length-drop (omega arith) in
    sym (take-append-le (length mid) (drop (length front) bs) end inside) ∙ ap (take (length mid)) rest ∙ take_at mid (10 ∷ back) (length mid) refl

-- what the lines have more than the list: nothing, or a newline
pub over : (bs : List ℕ) → (end : List ℕ) × ((end ≡ []) ⊎ (end ≡ 10 ∷ [])) × (rejoined (lines bs) ≡ bs ++ end)
over bs =
    ⊎_elim
    (λ none. ([], inl refl, subst (λ l. rejoined (lines l) ≡ l ++ []) (sym none) refl))
    (λ some.
    ⊎_elim
    (λ newline. ([], inl refl, rejoined_ended bs (λ u. u.3 ((same_from_push _ _ _ _ (sym u.2 ∙ some.2)).1 ∙ newline)) ∙ sym (append-nil bs)))
    (λ other. (10 ∷ [], inr refl, rejoined_unended bs (some.0, some.1, some.2, other)))
    (cases_eq some.1 10))
    (last_byte bs)

stands_in : (bs : List ℕ) (before after : List TextAt) (t : TextAt) → laid bs ≡ before ++ t ∷ after → Stands bs before t
stands_in bs before after t e =
    let place = place_laid (record { line = 1; offset = 0 }) (lines bs) before after t e in
    let more = over bs in
    let offset : length (rejoined (texts before)) ≡ t.place.offset = omega (arith, place.1) in
    let parts = sym more.2 ∙ ap rejoined (sym (texts_laid _ (lines bs))) ∙ ap (λ ts. rejoined (texts ts)) e ∙ split before after t in
    record {
      line = omega (arith, place.0);
      offset = sym offset;
      text = subst (λ o. take (length t.line) (drop o bs) ≡ t.line) offset (middle bs more.0 (rejoined (texts before)) t.line (rejoined (texts after)) parts (⊎_elim (λ none. omega (arith, ap length none)) (λ newline. omega (arith, ap length newline)) more.1));
    }

pub cut : (bs : List ℕ) → Cut bs (laid bs)
cut bs =
    let same = texts_laid (record { line = 1; offset = 0 }) (lines bs) in
    record {
      unended = λ u. ap rejoined same ∙ rejoined_unended bs u;
      ended = λ n. ap rejoined same ∙ rejoined_ended bs n;
      single = single_laid (record { line = 1; offset = 0 }) (lines bs) (single_lines bs);
      stands = stands_in bs;
      newline = λ u. ap (lay_out (record { line = 1; offset = 0 })) (newline_lines bs u);
    }

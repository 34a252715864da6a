-- The last line of a list, and where it stands.
use Rattle.std.proofs.Common.{◌≡◌, ℕ, ◌+◌, ◌-◌, ◌<◌, ◌≤◌, Bool, cond, eqb, List, [], ◌∷◌, ◌++◌, length, get_or, take, drop, Some, None, Option, sym, refl, ap, ◌∙◌, subst, ⊎_elim, append_assoc, arith, length-append, length-drop, take-append-drop}
use Rattle.std.specs.List.{last_or, AllByRecursion}
use Rattle.std.proofs.ByRecursion.{All-from_get_or}
use Rattle.std.proofs.lemmas.List.{length-take, length-take-le, get_or-take, get_or-drop, drop-drop, drop_more, drop_all, take_all, take_more}
use Rattle.std.proofs.lemmas.Bool.{cases_lt}
use Rattle.std.proofs.lemmas.Bool.Decides.{nat_tests}
use Rattle.fault.specs.declared.Place.{Place}
use Rattle.setup.specs.Cutting.{rejoined}
use Rattle.setup.specs.Lines.{onto, lines, TextAt, past, lay_out, laid}
use Rattle.form.specs.Forms.{given, trailer_count, form_of}
use Rattle.setup.specs.LastLine.{LastEnd, last_place}
use Rattle.setup.specs.Verdict.{last_of, count_fault, trailer_fault}
use Rattle.setup.proofs.Cuts.{rejoined_back, some_lines}
use Rattle.setup.proofs.Lined.{length-laid}

abbrev pub NoNewline : List ℕ → Type 0
NoNewline l = AllByRecursion (λ b. b ≡ 10 → ⊥) l

-- a line is what stands before the first newline
pub line_first : (l bs : List ℕ) → NoNewline l → lines (l ++ 10 ∷ bs) ≡ l ∷ lines bs
line_first [] bs h = refl
line_first (b ∷ l) bs h =
    let more = line_first l bs h.1 in
    let other = h.0 in
    grind (arith, nat_tests)

pub line_last : (b : ℕ) (l : List ℕ) → NoNewline (b ∷ l) → lines (b ∷ l) ≡ (b ∷ l) ∷ []
line_last b [] h = grind (arith, nat_tests)
line_last b (d ∷ l) h = let more = line_last d l h.1 in grind (arith, nat_tests)

-- where the line after ls begins, if ls begin at p
unfoldable pub past_all : Place → List (List ℕ) → Place
past_all p [] = p
past_all p (l ∷ ls) = past_all (past p l) ls

pub past_offset : (p : Place) (ls : List (List ℕ)) → (past_all p ls).offset ≡ p.offset + length (rejoined ls)
unfolding past_all
past_offset p [] = omega arith
past_offset p (l ∷ ls) = simp length-append (omega (arith, past_offset (past p l) ls))

pub last_line : (p : Place) (ls : List (List ℕ)) (l : List ℕ) (o : Option TextAt) → last_or o (lay_out p (ls ++ l ∷ [])) ≡ Some (record { place = past_all p ls; line = l })
unfolding past_all
last_line p [] l o = refl
last_line p (k ∷ ls) l o = last_line (past p k) ls l (Some (record { place = p; line = k }))

past_line : (p : Place) (ls : List (List ℕ)) → (past_all p ls).line ≡ p.line + length ls
unfolding past_all
past_line p [] = omega arith
past_line p (l ∷ ls) = omega (arith, past_line (past p l) ls)

onto_front : (b : ℕ) (ls ks : List (List ℕ)) → 0 < length ls → onto b (ls ++ ks) ≡ onto b ls ++ ks
onto_front b ls ks some = grind arith

-- a newline cuts the lines before it from those after
lines_cut : (front bs : List ℕ) → lines (front ++ 10 ∷ bs) ≡ lines (front ++ 10 ∷ []) ++ lines bs
lines_cut [] bs = refl
lines_cut (b ∷ front) bs =
    ap (λ ls. cond (eqb b 10) ([] ∷ ls) (onto b ls)) (lines_cut front bs)
    ∙ split (eqb b 10)
  where
    split : (t : Bool) → cond t ([] ∷ (lines (front ++ 10 ∷ []) ++ lines bs)) (onto b (lines (front ++ 10 ∷ []) ++ lines bs)) ≡ cond t ([] ∷ lines (front ++ 10 ∷ [])) (onto b (lines (front ++ 10 ∷ []))) ++ lines bs
    split t = let front = onto_front b (lines (front ++ 10 ∷ [])) (lines bs) (some_lines (front ++ 10 ∷ []) (simp length-append (omega arith))) in grind arith

line_alone : (l : List ℕ) → 0 < length l → NoNewline l → lines l ≡ l ∷ []
line_alone [] some h = absurd (omega arith)
line_alone (b ∷ l) some h = line_last b l h

-- the last line of bs stands from start to end
pub record LastLine (bs : List ℕ) (start end : ℕ) : Type 0 where
  pub within : start ≤ end
  pub ends : LastEnd bs end
  pub begins : 0 < start → get_or bs (start - 1) 0 ≡ 10
  pub single : (k : ℕ) → start ≤ k → k < end → get_or bs k 0 ≡ 10 → ⊥

module _ (bs : List ℕ) (start end : ℕ) (last : LastLine bs start end) (some : 0 < length bs) where
  inside : end ≤ length bs
  inside = let ends = last.ends in grind arith

  text_plain : NoNewline (take (end - start) (drop start bs))
  text_plain =
      All-from_get_or (λ b. b ≡ 10 → ⊥) (take (end - start) (drop start bs)) 0
      (λ i h.
      let short : i < end - start = omega (arith, length-take (end - start) (drop start bs)) in
      λ e. last.single (start + i) (omega arith) (omega arith) (sym (get_or-take (end - start) (drop start bs) i 0 short ∙ get_or-drop start bs i 0) ∙ e))

  whole : drop start bs ≡ take (end - start) (drop start bs) ++ drop end bs
  whole = sym (take-append-drop (end - start) (drop start bs)) ∙ ap (λ l. take (end - start) (drop start bs) ++ l) (drop-drop (end - start) start bs ∙ ap (λ n. drop n bs) (omega (arith, last.within)))

  last_lines : lines (drop start bs) ≡ take (end - start) (drop start bs) ∷ []
  last_lines =
      ⊎_elim
      (λ newline.
      let here : end < length bs = omega (arith, newline.0) in
      let tail : drop end bs ≡ 10 ∷ [] = drop_more bs end 0 here ∙ (λ i. newline.1 i ∷ drop_all (end + 1) bs (omega (arith, newline.0)) i) in
      ap lines (whole ∙ ap (λ l. take (end - start) (drop start bs) ++ l) tail) ∙ line_first _ [] text_plain)
      (λ none.
      let all : take (end - start) (drop start bs) ≡ drop start bs = take_all (end - start) (drop start bs) (omega (arith, length-drop start bs, none.0)) in
      let short : start < length bs = ⊎_elim (λ h. h) (λ over. absurd (none.1 (omega (arith, none.0)) (ap (λ n. get_or bs (n - 1) 0) (omega (arith, none.0, last.within)) ∙ last.begins (omega arith)))) (cases_lt start (length bs)) in
      ap lines (sym all) ∙ line_alone _ (omega (arith, ap length all, length-drop start bs)) text_plain)
      last.ends

  -- the lines before the last are those of what stands before it, which ends with a newline or is empty
  before : (rejoined (lines (take start bs)) ≡ take start bs) × (lines bs ≡ lines (take start bs) ++ (take (end - start) (drop start bs) ∷ []))
  before =
      ⊎_elim
      (λ here.
      let front : take start bs ≡ take (start - 1) bs ++ 10 ∷ [] =
      ap (λ n. take n bs) (omega arith) ∙ take_more bs (start - 1) 0 (omega (arith, inside, last.within)) ∙ ap (λ b. take (start - 1) bs ++ b ∷ []) (last.begins here) in (
        subst (λ l. rejoined (lines l) ≡ l) (sym front) (rejoined_back (take (start - 1) bs) 10),
        ap lines (sym (take-append-drop start bs) ∙ ap (λ l. l ++ drop start bs) front ∙ append_assoc (take (start - 1) bs) (10 ∷ []) (drop start bs))
            ∙ lines_cut (take (start - 1) bs) (drop start bs)
            ∙ ap (λ l. lines l ++ lines (drop start bs)) (sym front)
            ∙ ap (λ ls. lines (take start bs) ++ ls) last_lines,
      ))
      (λ none.
      let at_front : start ≡ 0 = omega arith in (
        ap (λ n. rejoined (lines (take n bs))) at_front ∙ ap (λ n. take n bs) (sym at_front),
        ap (λ n. lines (drop n bs)) (sym at_front) ∙ last_lines ∙ ap (λ n. lines (take n bs) ++ (take (end - start) (drop start bs) ∷ [])) (sym at_front),
      ))
      (cases_lt 0 start)

  pub last_is : last_or None (laid bs) ≡ Some (record { place = last_place bs start; line = take (end - start) (drop start bs) })
  last_is =
      let first : Place = record { line = 1; offset = 0 } in
      let front = lines (take start bs) in
      let line : (past_all first front).line ≡ length (laid bs) = omega (arith, past_line first front, length-laid first (lines bs), simp length-append at (ap length before.1)) in
      let offset : (past_all first front).offset ≡ start = omega (arith, past_offset first front, ap length before.0, length-take-le start bs (omega (arith, inside, last.within))) in
      ap (λ ls. last_or None (lay_out first ls)) before.1
      ∙ last_line first front (take (end - start) (drop start bs)) None
      ∙ (λ i. Some (record { place = record { line = line i; offset = offset i }; line = take (end - start) (drop start bs) }))

none_last : (start end : ℕ) → LastLine [] start end → (start ≡ 0) × (end ≡ 0)
none_last start end last =
    let ends = last.ends in
    let within = last.within in
    grind arith

-- the fault of the last line, by where it stands
pub trailer_at : (bs : List ℕ) (start end : ℕ) → LastLine bs start end → trailer_fault (last_of (laid bs)) ≡ count_fault (last_place bs start) (given (form_of (take (end - start) (drop start bs))) trailer_count)
trailer_at [] start end last =
    let none = none_last start end last in
    ap (λ l. count_fault (last_place [] start) (given (form_of l) trailer_count)) (sym (λ i. take (none.1 i - none.0 i) (drop (none.0 i) [])))
trailer_at (b ∷ bs) start end last = ap trailer_fault (last_is (b ∷ bs) start end last (omega arith))

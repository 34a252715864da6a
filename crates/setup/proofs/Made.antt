-- A list is found good exactly when it is well made.
use Rattle.std.proofs.Common.{◌≡◌, ℕ, ◌<◌, ◌≤◌, Bool, true, false, cond, not, ◌&&◌, eqb, ltb, ◌⊎◌, List, [], ◌∷◌, ◌++◌, map, length, is_some, is_ok, Some, None, Decides, Option, Result, sym, refl, ap, ◌∙◌, inl, inr, ⊎_elim, append_assoc, append-nil, zero-add, arith, rules, length-append}
use Rattle.std.specs.List.{last_or, AllByRecursion}
use Rattle.std.specs.Option.{option_or}
use Rattle.std.proofs.ByRecursion.{All-weaker}
use Rattle.std.proofs.lemmas.List.{append_cancel_right}
use Rattle.std.proofs.lemmas.Option.{same_Some}
use Rattle.std.proofs.lemmas.Bool.{eq-eqb, le-ltb, cond-true, cond-false}
use Rattle.std.proofs.lemmas.Bool.Decides.{nat_tests}
use Rattle.fault.specs.Faults.{unplaced}
use Rattle.fault.specs.declared.Cause.TheVariants.{ListTooLong}
use Rattle.fault.specs.declared.Fault.{Fault}
use Rattle.fault.specs.declared.Place.{Place}
use Rattle.form.specs.Forms.{Said, write, fans, remark, trailer, trailer_count, given, form_of}
use Rattle.form.specs.Spelling.{hex_of, spelled, Sayable}
use Rattle.form.proofs.Spelled.{spelled_back, understood}
use Rattle.setup.specs.Cutting.{Unended, rejoined}
use Rattle.setup.specs.Lines.{lines, TextAt, past, lay_out, laid}
use Rattle.setup.specs.Reading.{SaidAt, entry_from, entries}
use Rattle.setup.specs.Verdict.{last_of, count_fault, trailer_fault, length_fault, first_in, first_fault, verdict, Newline}
use Rattle.setup.specs.WellMade.{Plain, written, WellMade}
use Rattle.setup.proofs.Cuts.{over, cut}
use Rattle.setup.proofs.Last.{NoNewline, line_first, line_last, past_all, past_offset, last_line}

digit : (n : ℕ) → hex_of n ≡ 10 → ⊥
digit n e = grind (arith, nat_tests)

spelled_plain : (s : Said) → Sayable s → NoNewline (spelled s)
spelled_plain (write a r v) h = search (rules, digit)
spelled_plain (fans a n) h = search (rules, digit)
spelled_plain (remark text) h = let plain = All-weaker (λ b. (32 ≤ b) × (b ≤ 126)) (λ b. b ≡ 10 → ⊥) (λ b k e. omega (arith, k.0)) text h.1 in search rules
spelled_plain (trailer n) h = search (rules, digit)

rejoined_spelled : (ss : List Said) → rejoined (map spelled ss) ≡ written ss
rejoined_spelled [] = refl
rejoined_spelled (s ∷ ss) = rw (rejoined_spelled ss)

rejoined_more : (ss : List Said) (l : List ℕ) → rejoined (map spelled ss ++ l ∷ []) ≡ written ss ++ (l ++ 10 ∷ [])
rejoined_more [] l = simp append-nil
rejoined_more (s ∷ ss) l = simp (append_assoc, rejoined_more ss l)

lines_written : (ss : List Said) (bs : List ℕ) → AllByRecursion Plain ss → lines (written ss ++ bs) ≡ map spelled ss ++ lines bs
lines_written [] bs h = refl
lines_written (s ∷ ss) bs h = simp append_assoc (rw (line_first (spelled s) (written ss ++ bs) (spelled_plain s h.0.0)) (ap (λ ls. spelled s ∷ ls) (lines_written ss bs h.1)))

good_lines : (p : Place) (ss : List Said) (n : ℕ) → AllByRecursion Plain ss → n < 65536 → first_in (entries (lay_out p (map spelled ss ++ spelled (trailer n) ∷ []))) ≡ None
good_lines p [] n h few = let back = spelled_back (trailer n) few in rw back
good_lines p (s ∷ ss) n h few =
    let back = spelled_back s h.0.0 in
    let plain = h.0.1 in
    rw (back, plain) (good_lines (past p (spelled s)) ss n h.1 few)

trailer_line : (n : ℕ) (end : List ℕ) → n < 65536 → (end ≡ []) ⊎ (end ≡ 10 ∷ []) → lines (spelled (trailer n) ++ end) ≡ spelled (trailer n) ∷ []
trailer_line n end few ended =
    let plain = spelled_plain (trailer n) few in
    ⊎_elim
    (λ none. ap (λ e. lines (spelled (trailer n) ++ e)) none ∙ line_last 116 _ plain)
    (λ newline. ap (λ e. lines (spelled (trailer n) ++ e)) newline ∙ line_first (spelled (trailer n)) [] plain)
    ended

-- the trailer of a well-made list stands at the count of the bytes before it
trailer_offset : (ss : List Said) → (past_all (record { line = 1; offset = 0 }) (map spelled ss)).offset ≡ length (written ss)
trailer_offset ss = past_offset (record { line = 1; offset = 0 }) (map spelled ss) ∙ zero-add _ ∙ ap length (rejoined_spelled ss)

pub good : (bs : List ℕ) → WellMade bs → first_fault bs ≡ None
good bs w =
    let n = length (written w.said) in
    let first : Place = record { line = 1; offset = 0 } in
    let before = map spelled w.said in
    let size = ap length w.whole ∙ length-append (written w.said) (spelled (trailer n) ++ w.end) in
    let few : n < 65536 = omega (arith, w.short, size) in
    let cut : lines bs ≡ before ++ spelled (trailer n) ∷ [] = ap lines w.whole ∙ lines_written w.said _ w.plain ∙ ap (λ ls. before ++ ls) (trailer_line n w.end few w.ended) in
    let short : length_fault bs ≡ None = cond-false (ltb 24576 (length bs)) _ _ (le-ltb 24576 (length bs) w.short) in
    let counted : trailer_fault (last_of (laid bs)) ≡ None =
    ap (λ ls. trailer_fault (last_of (lay_out first ls))) cut
    ∙ ap trailer_fault (last_line first before (spelled (trailer n)) None)
    ∙ ap (λ f. count_fault (past_all first before) (given f trailer_count)) (spelled_back (trailer n) few)
    ∙ cond-true (eqb n (past_all first before).offset) _ _ (eq-eqb n _ (sym (trailer_offset w.said))) in
    let clean = ap (λ ls. first_in (entries (lay_out first ls))) cut ∙ good_lines first w.said n w.plain few in
    λ i. option_or (option_or (short i) (counted i)) (clean i)

count_none : (p : Place) (m : Option ℕ) → count_fault p m ≡ None → (n : ℕ) × (m ≡ Some n) × (n ≡ p.offset)
count_none p m e = grind (arith, nat_tests)

trailer_none : (o : Option TextAt) → trailer_fault o ≡ None → (t : TextAt) × (o ≡ Some t) × ((n : ℕ) × (given (form_of t.line) trailer_count ≡ Some n) × (n ≡ t.place.offset))
trailer_none None e = cc
trailer_none (Some t) e = (t, refl, count_none t.place (given (form_of t.line) trailer_count) e)

entry_none : (p : Place) (last : Bool) (f : Option Said) (es : List (Result SaidAt Fault)) → first_in (entry_from p last f ∷ es) ≡ None → (s : Said) × (f ≡ Some s) × ((is_some (trailer_count s) && not last) ≡ false) × (first_in es ≡ None)
entry_none p last f es e = grind arith

trailer_is : (s : Said) (n : ℕ) → trailer_count s ≡ Some n → s ≡ trailer n
trailer_is s n e = grind arith

not_trailer : (m : Option ℕ) → (is_some m && true) ≡ false → m ≡ None
not_trailer m e = grind arith

-- lines without a fault spell something, and end with the trailer
spell : (p : Place) (l : List ℕ) (ls : List (List ℕ)) (o : Option TextAt) (t : TextAt) (n : ℕ) → first_in (entries (lay_out p (l ∷ ls))) ≡ None → last_or o (lay_out p (l ∷ ls)) ≡ Some t → given (form_of t.line) trailer_count ≡ Some n → (ss : List Said) × AllByRecursion Plain ss × (l ∷ ls ≡ map spelled ss ++ spelled (trailer n) ∷ [])
spell p l [] o t n e last count =
    let one = entry_none p true (form_of l) [] e in
    let same : l ≡ t.line = cc in
    let counted : trailer_count one.0 ≡ Some n = sym (ap (λ f. given f trailer_count) one.1) ∙ ap (λ k. given (form_of k) trailer_count) same ∙ count in
    let whole = ((understood l).sound one.0 one.1).whole in
    ([], tt, ap (λ k. k ∷ []) (whole ∙ ap spelled (trailer_is one.0 n counted)))
spell p l (m ∷ ls) o t n e last count =
    let one = entry_none p false (form_of l) (entries (lay_out (past p l) (m ∷ ls))) e in
    let more = spell (past p l) m ls (Some (record { place = p; line = l })) t n one.3 last count in
    let spells = (understood l).sound one.0 one.1 in
    (one.0 ∷ more.0, ((spells.fields, not_trailer _ one.2), more.1), λ i. spells.whole i ∷ more.2 i)

made_of : (bs : List ℕ) (ls : List (List ℕ)) → lines bs ≡ ls → length bs ≤ 24576 → (t : TextAt) (n : ℕ) → first_in (entries (lay_out (record { line = 1; offset = 0 }) ls)) ≡ None → last_of (lay_out (record { line = 1; offset = 0 }) ls) ≡ Some t → given (form_of t.line) trailer_count ≡ Some n → n ≡ t.place.offset → WellMade bs
made_of bs [] cut short t n clean last count here = cc
made_of bs (l ∷ ls) cut short t n clean last count here =
    let first : Place = record { line = 1; offset = 0 } in
    let told = spell first l ls None t n clean last count in
    let ss = told.0 in
    let whole = cut ∙ told.2 in
    let same : Some (record { place = past_all first (map spelled ss); line = spelled (trailer n) }) ≡ Some t = sym (last_line first (map spelled ss) (spelled (trailer n)) None) ∙ ap (λ k. last_or None (lay_out first k)) (sym told.2) ∙ last in
    let counts : n ≡ length (written ss) = here ∙ ap (λ u. u.place.offset) (sym (same_Some _ _ same)) ∙ trailer_offset ss in
    let more = over bs in
    let trailing = spelled (trailer (length (written ss))) in
    let joined : bs ++ more.0 ≡ written ss ++ (trailing ++ 10 ∷ []) =
    sym more.2 ∙ ap rejoined whole ∙ rejoined_more ss (spelled (trailer n)) ∙ ap (λ k. written ss ++ (spelled (trailer k) ++ 10 ∷ [])) counts in
    ⊎_elim
    (λ none. record { said = ss; plain = told.1; end = 10 ∷ []; ended = inr refl; whole = sym (append-nil bs) ∙ ap (λ e. bs ++ e) (sym none) ∙ joined; short = short })
    (λ newline. record { said = ss; plain = told.1; end = []; ended = inl refl; whole = append_cancel_right bs (written ss ++ (trailing ++ [])) (10 ∷ []) (ap (λ e. bs ++ e) (sym newline) ∙ joined ∙ sym (append_assoc (written ss) trailing (10 ∷ []))); short = short })
    more.1

pub made : (bs : List ℕ) → first_fault bs ≡ None → WellMade bs
made bs e =
    let short : length bs ≤ 24576 = grind (arith, nat_tests) in
    let clean : first_in (entries (laid bs)) ≡ None = grind arith in
    let counted : trailer_fault (last_of (laid bs)) ≡ None = grind arith in
    let last = trailer_none (last_of (laid bs)) counted in
    made_of bs (lines bs) refl short last.0 last.2.0 clean last.1 last.2.1 last.2.2

ok_none : (o : Option Fault) → is_ok (verdict o) ≡ true → o ≡ None
ok_none o e = grind arith

-- a missing last newline decides nothing, unless the list is as long as can be
newline_verdict : (bs : List ℕ) → Unended bs → (length bs ≡ 24576 → ⊥) → first_fault (bs ++ 10 ∷ []) ≡ first_fault bs
newline_verdict bs u other =
    let same = (cut bs).newline u in
    let size : ltb 24576 (length (bs ++ 10 ∷ [])) ≡ ltb 24576 (length bs) = simp length-append (grind (arith, nat_tests)) in
    λ i. option_or (option_or (cond (size i) (Some (unplaced ListTooLong)) None) (trailer_fault (last_of (same i)))) (first_in (entries (same i)))

module _ (bs : List ℕ) (r : Result (Unit {0}) Fault) (is : r ≡ verdict (first_fault bs)) where
  pub good_when_made : Decides (is_ok r) (WellMade bs)
  good_when_made = (λ e. made bs (ok_none (first_fault bs) (sym (ap is_ok is) ∙ e)), λ w. ap is_ok is ∙ ap (λ o. is_ok (verdict o)) (good bs w))

  pub same_with_newline : Newline bs r
  same_with_newline u other = is ∙ ap verdict (sym (newline_verdict bs u other))

-- A line is understood exactly as it is spelled.
use Rattle.std.proofs.Common.{◌≡◌, ℕ, ◌+◌, ◌*◌, ◌/◌, ◌%◌, ◌<◌, ◌≤◌, Bool, true, cond, List, [], ◌∷◌, ◌++◌, map, length, get_or, drop, Some, None, Option, sym, refl, ap, ◌∙◌, subst, arith, length-drop}
use Rattle.std.specs.List.{range_with_len, AllByRecursion}
use Rattle.std.proofs.lemmas.List.FromFn.{fill_by_all}
use Rattle.std.proofs.lemmas.List.Elements.{All-weaker, All-from_recursion, recursion_from_All}
use Rattle.std.proofs.lemmas.List.Sums.{AllPass-from_list_all, list_all-from_AllPass}
use Rattle.std.proofs.lemmas.Option.{same_Some}
use Rattle.std.proofs.lemmas.Bool.Decides.{nat_tests}
use Rattle.form.specs.declared.Opening.{Opening}
use Rattle.form.specs.declared.Opening.TheVariants as opens
use Rattle.form.specs.Forms.{Said, write, fans, remark, trailer, given, decimal_digit, hex_digit, hex_byte, byte_at, spaced, printable, all_printable, as_write, as_fans, as_remark, as_trailer, opening, formed, form_of}
use Rattle.form.specs.Spelling.{hex_of, hex_of_byte, spelled, Sayable, Spells, Understood}

-- what an `Option` that is known to be there says of its parts
given_some : {A B : Type 0} (o : Option A) (f : A → Option B) (y : B) → given o f ≡ Some y → (x : A) × (o ≡ Some x) × (f x ≡ Some y)
given_some o f y e = grind arith

cond_some : {A : Type 0} (b : Bool) (o : Option A) (y : A) → cond b o None ≡ Some y → (b ≡ true) × (o ≡ Some y)
cond_some b o y e = grind arith

digit_back : (n : ℕ) → n < 10 → decimal_digit (48 + n) ≡ Some n
digit_back n h = grind (arith, nat_tests)

digit_is : (b n : ℕ) → decimal_digit b ≡ Some n → (b ≡ 48 + n) × (n < 10)
digit_is b n e = grind (arith, nat_tests)

pub hex_back : (n : ℕ) → n < 16 → hex_digit (hex_of n) ≡ Some n
hex_back n h = grind (arith, nat_tests)

hex_is : (b n : ℕ) → hex_digit b ≡ Some n → (b ≡ hex_of n) × (n < 16)
hex_is b n e = grind (arith, nat_tests)

pub byte_back : (n : ℕ) → n < 256 → hex_byte (hex_of (n / 16)) (hex_of (n % 16)) ≡ Some n
byte_back n h =
    let high = hex_back (n / 16) (omega arith) in
    let low = hex_back (n % 16) (omega arith) in
    rw (high, low) (ap Some (omega arith))

byte_is : (high low n : ℕ) → hex_byte high low ≡ Some n → (high ≡ hex_of (n / 16)) × (low ≡ hex_of (n % 16)) × (n < 256)
byte_is high low n e = grind (arith, nat_tests, hex_is)

-- a list of known length, element by element
spread : (n : ℕ) (t : List ℕ) → length t ≡ n → t ≡ map (λ i. get_or t i 0) (range_with_len 0 n)
spread n t e = fill_by_all (λ i. get_or t i 0) t n 0 e (λ k h. refl)

abbrev Printable : ℕ → Type 0
Printable b = (32 ≤ b) × (b ≤ 126)

all_printable_lem : (t : List ℕ) → all_printable t ≡ true → AllByRecursion Printable t
all_printable_lem t e = recursion_from_All Printable t (All-weaker (λ b. printable b ≡ true) Printable (λ b here. grind (arith, nat_tests)) t (AllPass-from_list_all printable t e))

printable_all : (t : List ℕ) → AllByRecursion Printable t → all_printable t ≡ true
printable_all t h = list_all-from_AllPass printable t (All-weaker Printable (λ b. printable b ≡ true) (λ b here. grind (arith, nat_tests)) t (All-from_recursion Printable t h))

spaced_is : (t : List ℕ) (n : ℕ) (is : List ℕ) → spaced t n is ≡ true → (length t ≡ n) × AllByRecursion (λ i. get_or t i 0 ≡ 32) is
spaced_is t n [] e = grind (arith, nat_tests)
spaced_is t n (i ∷ is) e = let more = spaced_is t n is in grind (arith, nat_tests)

-- of a line of n bytes with these spaces, what the fields give is read off byte by byte
write_sound : (t : List ℕ) (s : Said) → get_or t 0 0 ≡ 119 → as_write t ≡ Some s → Spells t s
write_sound t s first e =
    let p = cond_some (spaced t 10 (1 ∷ 4 ∷ 7 ∷ [])) _ s e in
    let shape = spaced_is t 10 (1 ∷ 4 ∷ 7 ∷ []) p.0 in
    let a = given_some (byte_at t 2) _ s p.1 in
    let r = given_some (byte_at t 5) _ s a.2 in
    let v = given_some (byte_at t 8) _ s r.2 in
    let unit = byte_is (get_or t 2 0) (get_or t 3 0) a.0 a.1 in
    let register = byte_is (get_or t 5 0) (get_or t 6 0) r.0 r.1 in
    let byte = byte_is (get_or t 8 0) (get_or t 9 0) v.0 v.1 in
    subst (Spells t) (same_Some _ _ v.2) (record {
      whole = spread 10 t shape.0 ∙ (λ i. first i ∷ shape.1.0 i ∷ unit.0 i ∷ unit.1 i ∷ shape.1.1.0 i ∷ register.0 i ∷ register.1 i ∷ shape.1.1.1.0 i ∷ byte.0 i ∷ byte.1 i ∷ []);
      fields = (unit.2, register.2, byte.2);
    })

fans_sound : (t : List ℕ) (s : Said) → get_or t 0 0 ≡ 102 → as_fans t ≡ Some s → Spells t s
fans_sound t s first e =
    let p = cond_some (spaced t 6 (1 ∷ 4 ∷ [])) _ s e in
    let shape = spaced_is t 6 (1 ∷ 4 ∷ []) p.0 in
    let a = given_some (byte_at t 2) _ s p.1 in
    let n = given_some (decimal_digit (get_or t 5 0)) _ s a.2 in
    let unit = byte_is (get_or t 2 0) (get_or t 3 0) a.0 a.1 in
    let count = digit_is (get_or t 5 0) n.0 n.1 in
    subst (Spells t) (same_Some _ _ n.2) (record {
      whole = spread 6 t shape.0 ∙ (λ i. first i ∷ shape.1.0 i ∷ unit.0 i ∷ unit.1 i ∷ shape.1.1.0 i ∷ count.0 i ∷ []);
      fields = (unit.2, count.1);
    })

first_two : (t : List ℕ) → 2 ≤ length t → t ≡ get_or t 0 0 ∷ get_or t 1 0 ∷ drop 2 t
first_two t h = grind arith

remark_sound : (t : List ℕ) (s : Said) → get_or t 0 0 ≡ 35 → as_remark t ≡ Some s → Spells t s
remark_sound t s first e =
    let p : (2 ≤ length t) × (length t ≤ 62) × (get_or t 1 0 ≡ 32) × (all_printable (drop 2 t) ≡ true) × (remark (drop 2 t) ≡ s) = grind (arith, nat_tests) in
    subst (Spells t) p.4 (record {
      whole = first_two t p.0 ∙ (λ i. first i ∷ p.2 i ∷ drop 2 t);
      fields = (simp length-drop (omega arith), all_printable_lem (drop 2 t) p.3);
    })

trailer_sound : (t : List ℕ) (s : Said) → get_or t 0 0 ≡ 116 → as_trailer t ≡ Some s → Spells t s
trailer_sound t s first e =
    let p = cond_some (spaced t 6 (1 ∷ [])) _ s e in
    let shape = spaced_is t 6 (1 ∷ []) p.0 in
    let h = given_some (byte_at t 2) _ s p.1 in
    let l = given_some (byte_at t 4) _ s h.2 in
    let high = byte_is (get_or t 2 0) (get_or t 3 0) h.0 h.1 in
    let low = byte_is (get_or t 4 0) (get_or t 5 0) l.0 l.1 in
    let top : h.0 ≡ (h.0 * 256 + l.0) / 256 = omega arith in
    let end : l.0 ≡ (h.0 * 256 + l.0) % 256 = omega arith in
    subst (Spells t) (same_Some _ _ l.2) (record {
      whole = spread 6 t shape.0 ∙ (λ i. first i ∷ shape.1.0 i ∷ high.0 i ∷ high.1 i ∷ low.0 i ∷ low.1 i ∷ []) ∙ (λ i. 116 ∷ 32 ∷ hex_of_byte (top i) ++ hex_of_byte (end i));
      fields = omega arith;
    })

formed_sound : (t : List ℕ) (o : Opening) (s : Said) → opening (get_or t 0 0) ≡ Some o → formed t o ≡ Some s → Spells t s
formed_sound t opens.Write s first e = write_sound t s (grind (arith, nat_tests)) e
formed_sound t opens.Fans s first e = fans_sound t s (grind (arith, nat_tests)) e
formed_sound t opens.Remark s first e = remark_sound t s (grind (arith, nat_tests)) e
formed_sound t opens.Trailer s first e = trailer_sound t s (grind (arith, nat_tests)) e

sound : (t : List ℕ) (s : Said) → form_of t ≡ Some s → Spells t s
sound [] s e = cc
sound (b ∷ bs) s e =
    let p = given_some (opening b) (formed (b ∷ bs)) s e in
    formed_sound (b ∷ bs) p.0 s p.1 p.2

pub spelled_back : (s : Said) → Sayable s → form_of (spelled s) ≡ Some s
spelled_back (write unit register byte) h =
    let a = byte_back unit h.0 in
    let r = byte_back register h.1 in
    let v = byte_back byte h.2 in
    rw (a, r, v)
spelled_back (fans unit count) h =
    let a = byte_back unit h.0 in
    let n = digit_back count h.1 in
    rw (a, n)
spelled_back (remark text) h =
    let all = printable_all text h.1 in
    let most = h.0 in
    grind (arith, nat_tests)
spelled_back (trailer count) h =
    let high = byte_back (count / 256) (omega arith) in
    let low = byte_back (count % 256) (omega arith) in
    rw (high, low) (ap (λ n. Some (trailer n)) (omega arith))

pub understood : (t : List ℕ) → Understood t (form_of t)
understood t = record {
  sound = sound t;
  complete = λ s h. ap form_of h.whole ∙ spelled_back s h.fields;
}

pub understood_as : (t : List ℕ) (o : Option Said) → o ≡ form_of t → Understood t o
understood_as t o e = subst (Understood t) (sym e) (understood t)

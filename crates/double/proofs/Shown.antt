-- Each bit of the status byte is the mark that it stands for.
use Rattle.std.proofs.Common.{◌≡◌, ℕ, ◌+◌, ◌*◌, ◌/◌, ◌%◌, ◌≤◌, Bool, true, false, eqb, sym, refl, ap, ◌∙◌, subst, arith}
use Rattle.unit.specs.declared.mark.Mark.{Mark}
use Rattle.double.specs.Status.{AllShown, status_byte, weight}

-- a bit as a number
abbrev digit : Bool → ℕ
digit b = weight b 1

small : (b : Bool) → digit b ≤ 1
small true = omega arith
small false = omega arith

-- the byte, in binary digits
abbrev binary : (a b c d e f g h : ℕ) → ℕ
binary a b c d e f g h = a + 2 * b + 4 * c + 8 * d + 16 * e + 32 * f + 64 * g + 128 * h

pub record Digits (n a b c d e f g h : ℕ) : Type 0 where
  pub bit0 : n / 1 % 2 ≡ a
  pub bit1 : n / 2 % 2 ≡ b
  pub bit2 : n / 4 % 2 ≡ c
  pub bit3 : n / 8 % 2 ≡ d
  pub bit4 : n / 16 % 2 ≡ e
  pub bit5 : n / 32 % 2 ≡ f
  pub bit6 : n / 64 % 2 ≡ g
  pub bit7 : n / 128 % 2 ≡ h

digits : (a b c d e f g h : ℕ) → a ≤ 1 → b ≤ 1 → c ≤ 1 → d ≤ 1 → e ≤ 1 → f ≤ 1 → g ≤ 1 → h ≤ 1 → Digits (binary a b c d e f g h) a b c d e f g h
digits a b c d e f g h ha hb hc hd he hf hg hh = record {
  bit0 = omega arith;
  bit1 = omega arith;
  bit2 = omega arith;
  bit3 = omega arith;
  bit4 = omega arith;
  bit5 = omega arith;
  bit6 = omega arith;
  bit7 = omega arith;
}

weighs : (b : Bool) (w : ℕ) → weight b w ≡ w * digit b
weighs true w = omega arith
weighs false w = omega arith

tells : (b : Bool) (x : ℕ) → x ≡ digit b → eqb x 1 ≡ b
tells b x e = ap (λ y. eqb y 1) e ∙ same b
  where
    same : (b : Bool) → eqb (digit b) 1 ≡ b
    same true = refl
    same false = refl

shown : {n : ℕ} (m f t h : Mark) → Digits n (digit m.failing) (digit m.held) (digit f.held) (digit f.failing) (digit t.failing) (digit h.failing) (digit t.held) (digit h.held) → AllShown n m f t h
shown m f t h d = record {
  missing = record { failing = tells m.failing _ d.bit0; held = tells m.held _ d.bit1 };
  fault = record { failing = tells f.failing _ d.bit3; held = tells f.held _ d.bit2 };
  tach = record { failing = tells t.failing _ d.bit4; held = tells t.held _ d.bit6 };
  plug = record { failing = tells h.failing _ d.bit5; held = tells h.held _ d.bit7 };
}

pub all_shown : (n : ℕ) (m f t h : Mark) → n ≡ status_byte m f t h → AllShown n m f t h
all_shown n m f t h is =
    let sum : n ≡ binary (digit m.failing) (digit m.held) (digit f.held) (digit f.failing) (digit t.failing) (digit h.failing) (digit t.held) (digit h.held) =
    omega (arith, is, weighs m.failing 1, weighs m.held 2, weighs f.held 4, weighs f.failing 8, weighs t.failing 16, weighs h.failing 32, weighs t.held 64, weighs h.held 128) in
    subst (λ n. AllShown n m f t h) (sym sum) (shown m f t h (digits _ _ _ _ _ _ _ _ (small m.failing) (small m.held) (small f.held) (small f.failing) (small t.failing) (small h.failing) (small t.held) (small h.held)))

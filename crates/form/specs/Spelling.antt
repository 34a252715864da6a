-- How what a line says is spelled: a line is understood exactly when it is the spelling of something.
use Rattle.std.specs.Prelude.{◌≡◌, ℕ, ◌+◌, ◌/◌, ◌%◌, ◌<◌, ◌≤◌, cond, List, [], ◌∷◌, ◌++◌, length, Some, Option, nat_lt}
use Rattle.std.specs.List.{AllByRecursion}
use Rattle.form.specs.Forms.{Said, write, fans, remark, trailer}

-- a hexadecimal digit, in upper case
abbrev pub hex_of : ℕ → ℕ
hex_of n = cond (nat_lt n 10) (48 + n) (55 + n)

abbrev pub hex_of_byte : ℕ → List ℕ
hex_of_byte n = hex_of (n / 16) ∷ hex_of (n % 16) ∷ []

-- fields stand after single spaces
abbrev pub spelled : Said → List ℕ
spelled (write unit register byte) = 119 ∷ 32 ∷ hex_of_byte unit ++ (32 ∷ hex_of_byte register ++ (32 ∷ hex_of_byte byte))
spelled (fans unit count) = 102 ∷ 32 ∷ hex_of_byte unit ++ (32 ∷ (48 + count) ∷ [])
spelled (remark text) = 35 ∷ 32 ∷ text
spelled (trailer count) = 116 ∷ 32 ∷ hex_of_byte (count / 256) ++ hex_of_byte (count % 256)

-- a field holds a byte, a decimal digit, at most 60 printable bytes, or four hexadecimal digits
abbrev pub Sayable : Said → Type 0
Sayable (write unit register byte) = (unit < 256) × (register < 256) × (byte < 256)
Sayable (fans unit count) = (unit < 256) × (count < 10)
Sayable (remark text) = (length text ≤ 60) × AllByRecursion (λ b. (32 ≤ b) × (b ≤ 126)) text
Sayable (trailer count) = count < 65536

pub record Spells (text : List ℕ) (said : Said) : Type 0 where
  pub whole : text ≡ spelled said
  pub fields : Sayable said

-- o is what the text spells: nothing else is taken for it, and nothing that it spells is missed
pub record Understood (text : List ℕ) (o : Option Said) : Type 0 where
  pub sound : (s : Said) → o ≡ Some s → Spells text s
  pub complete : (s : Said) → Spells text s → o ≡ Some s

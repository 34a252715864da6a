-- What the bytes of a set-up line say: its form and its fields.
use Rattle.std.specs.Prelude.{ℕ, ◌+◌, ◌-◌, ◌*◌, Bool, cond, ◌&&◌, List, [], ◌∷◌, length, drop, Some, None, Option, ◌==◌, nat_le, slice_index}
use Rattle.std.specs.List.{list_all}
use Rattle.form.specs.declared.Line.{Line}
use Rattle.form.specs.declared.Line.TheVariants as line
use Rattle.form.specs.declared.Opening.{Opening}
use Rattle.form.specs.declared.Opening.TheVariants as opens

-- what a line says
pub data Said : Type 0 where
  write : (unit register byte : ℕ) → Said
  fans : (unit count : ℕ) → Said
  remark : (text : List ℕ) → Said
  trailer : (count : ℕ) → Said

-- a line of the code, by what it says
abbrev pub meaning : Line → Said
meaning (line.Write unit register byte) = write unit register byte
meaning (line.Fans unit count) = fans unit count
meaning (line.Remark text) = remark text.now
meaning (line.Trailer count) = trailer count

-- the count of a trailer
abbrev pub trailer_count : Said → Option ℕ
trailer_count (write unit register byte) = None
trailer_count (fans unit count) = None
trailer_count (remark text) = None
trailer_count (trailer count) = Some count

-- f of the value, where there is one
abbrev pub given : {A B : Type 0} → Option A → (A → Option B) → Option B
given None f = None
given (Some x) f = f x

-- w, f, # and t
abbrev pub opening : ℕ → Option Opening
opening c = cond (c == 119) (Some opens.Write) (cond (c == 102) (Some opens.Fans) (cond (c == 35) (Some opens.Remark) (cond (c == 116) (Some opens.Trailer) None)))

abbrev pub within : ℕ → ℕ → ℕ → Bool
within low high n = nat_le low n && nat_le n high

abbrev pub decimal_digit : ℕ → Option ℕ
decimal_digit b = cond (within 48 57 b) (Some (b - 48)) None

-- 0 to 9 and A to F, in upper case only
abbrev pub hex_digit : ℕ → Option ℕ
hex_digit b = cond (within 48 57 b) (Some (b - 48)) (cond (within 65 70 b) (Some (b - 55)) None)

abbrev pub hex_byte : ℕ → ℕ → Option ℕ
hex_byte high low = given (hex_digit high) (λ h. given (hex_digit low) (λ l. Some (h * 16 + l)))

-- a space to a tilde
abbrev pub printable : ℕ → Bool
printable b = within 32 126 b

abbrev pub all_printable : List ℕ → Bool
all_printable bs = list_all printable bs

-- the hexadecimal byte whose two digits stand at i and after it
abbrev pub byte_at : List ℕ → ℕ → Option ℕ
byte_at t i = hex_byte (slice_index t i) (slice_index t (i + 1))

-- n bytes, with a space at each of these places
abbrev pub spaced : List ℕ → ℕ → List ℕ → Bool
spaced t n [] = length t == n
spaced t n (i ∷ is) = slice_index t i == 32 && spaced t n is

-- `w AA RR VV`
abbrev pub as_write : List ℕ → Option Said
as_write t = cond (spaced t 10 (1 ∷ 4 ∷ 7 ∷ [])) (given (byte_at t 2) (λ a. given (byte_at t 5) (λ r. given (byte_at t 8) (λ v. Some (write a r v))))) None

-- `f AA N`
abbrev pub as_fans : List ℕ → Option Said
as_fans t = cond (spaced t 6 (1 ∷ 4 ∷ [])) (given (byte_at t 2) (λ a. given (decimal_digit (slice_index t 5)) (λ n. Some (fans a n)))) None

-- `# ` and at most 60 bytes
abbrev pub remark_shaped : List ℕ → Bool
remark_shaped t = within 2 62 (length t) && slice_index t 1 == 32

abbrev pub as_remark : List ℕ → Option Said
as_remark t = cond (remark_shaped t && all_printable (drop 2 t)) (Some (remark (drop 2 t))) None

-- `t LLLL`
abbrev pub as_trailer : List ℕ → Option Said
as_trailer t = cond (spaced t 6 (1 ∷ [])) (given (byte_at t 2) (λ h. given (byte_at t 4) (λ l. Some (trailer (h * 256 + l))))) None

abbrev pub formed : List ℕ → Opening → Option Said
formed t opens.Write = as_write t
formed t opens.Fans = as_fans t
formed t opens.Remark = as_remark t
formed t opens.Trailer = as_trailer t

-- what a line without its newline says, if it has one of the four forms
abbrev pub form_of : List ℕ → Option Said
form_of [] = None
form_of (b ∷ bs) = given (opening b) (formed (b ∷ bs))

-- How the lines stand in their list, whatever the list holds.
use Rattle.std.specs.Prelude.{◌≡◌, ℕ, ◌+◌, List, [], ◌∷◌, ◌++◌, map, length, take, drop, ◌≢◌}
use Rattle.std.specs.List.{flat_map, AllByRecursion}
use Rattle.setup.specs.Lines.{TextAt, laid}

-- the last line lacks its newline: the list has a last byte, and that is no newline
abbrev pub Unended : List ℕ → Type 0
Unended bs = (front : List ℕ) × (b : ℕ) × (bs ≡ front ++ b ∷ []) × (b ≢ 10)

abbrev pub texts : List TextAt → List (List ℕ)
texts ts = map (λ t. t.line) ts

-- lines put together again, a newline after each
abbrev pub rejoined : List (List ℕ) → List ℕ
rejoined ls = flat_map (λ l. l ++ 10 ∷ []) ls

-- t comes after the lines `before`, and stands in bs where it says
pub record Stands (bs : List ℕ) (before : List TextAt) (t : TextAt) : Type 0 where
  pub line : t.place.line ≡ length before + 1
  pub offset : t.place.offset ≡ length (rejoined (texts before))
  pub text : take (length t.line) (drop t.place.offset bs) ≡ t.line

-- ts are the lines of bs: together they are bs, with one newline more exactly where bs lacks its last
pub record Cut (bs : List ℕ) (ts : List TextAt) : Type 0 where
  pub unended : Unended bs → rejoined (texts ts) ≡ bs ++ 10 ∷ []
  pub ended : (Unended bs → ⊥) → rejoined (texts ts) ≡ bs
  pub single : AllByRecursion (λ t. AllByRecursion (λ b. b ≢ 10) t.line) ts
  pub stands : (before after : List TextAt) (t : TextAt) → ts ≡ before ++ t ∷ after → Stands bs before t
  pub newline : Unended bs → laid (bs ++ 10 ∷ []) ≡ ts

-- What a well-made list is: lines that say something, and then a trailer that counts their bytes.
use Rattle.std.specs.Prelude.{◌≡◌, ℕ, ◌≤◌, ◌⊎◌, List, [], ◌∷◌, ◌++◌, length, None}
use Rattle.std.specs.List.{flat_map, AllByRecursion}
use Rattle.form.specs.Forms.{Said, trailer, trailer_count}
use Rattle.form.specs.Spelling.{spelled, Sayable}

-- what stands before the trailer
abbrev pub Plain : Said → Type 0
Plain s = Sayable s × (trailer_count s ≡ None)

-- lines spelled out, a newline after each
abbrev pub written : List Said → List ℕ
written ss = flat_map (λ s. spelled s ++ 10 ∷ []) ss

pub record WellMade (bs : List ℕ) : Type 0 where
  pub said : List Said
  pub plain : AllByRecursion Plain said
  pub end : List ℕ
  pub ended : (end ≡ []) ⊎ (end ≡ 10 ∷ [])
  pub whole : bs ≡ written said ++ (spelled (trailer (length (written said))) ++ end)
  pub short : length bs ≤ 24576

-- What the calls of a closure give.
use Rattle.std.specs.Prelude.{◌≡◌}

-- each call gives what f gives
abbrev pub Computes : {A R : Type 0} → (A → R → Type 0) → (A → R) → Type 0
Computes {A} {R} calls f = (x : A) (r : R) → calls x r → r ≡ f x

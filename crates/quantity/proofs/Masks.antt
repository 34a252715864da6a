-- A byte's named bits, masked again, stay as they are.
use Rattle.std.proofs.Common.{ℕ, ◌<◌, ◌≡◌, ap, ◌∙◌, bit_and}
use Rattle.std.proofs.lemmas.Nat.{and_assoc}
use Rattle.std.specs.Int.Bits.{and_self}

pub mask_again : (b m : ℕ) → b < 256 → bit_and (bit_and b m) m ≡ bit_and b m
mask_again b m h = and_assoc m b m ∙ ap (bit_and b) (and_self m)

-- A loop that is at least as hot as another stays so under a report that is no lower, and asks for no lower level.
use Rattle.std.proofs.Common.{ℕ, ◌≤◌, ℤ, ◌≤ℤ◌, arith}
use borrow.Author.Differences.{ints}
use Rattle.control.specs.declared.state.Loop.{Loop}
use Rattle.control.specs.State.{Warmer, heard, level_in, off}
use Rattle.control.proofs.Rising.{level_rises, on_survives}

pub warmer_off : Warmer off off
warmer_off = record { on = λ t. t; reading = omega (arith, ints) }

module _ {a b : Loop} (warmer : Warmer a b) (start : ℤ) where
  pub warmer_heard : (h : ℕ) (v w : ℤ) → v ≤ℤ w → Warmer (heard a v start h) (heard b w start h)
  warmer_heard h v w le = record { on = on_survives start h a.on b.on v w warmer.on le; reading = le }

  pub warmer_level : (width m : ℕ) → m ≤ 255 → level_in a start width m ≤ level_in b start width m
  warmer_level width m small = level_rises start width m small a.on b.on a.reading b.reading warmer.on warmer.reading

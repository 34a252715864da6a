-- A value above a limit stays above it when it rises.
use Rattle.std.proofs.Common.{T, ℤ, ◌≤ℤ◌, arith}
use lib.Signed.{lt_z}
use borrow.Author.Differences.{ints}

pub above_more : (limit v w : ℤ) → v ≤ℤ w → T (lt_z limit v) → T (lt_z limit w)
above_more limit v w le h = grind (arith, ints)

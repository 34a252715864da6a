-- An own state that is at least as hot as another stays so under readings of a tachometer, and where a loop is put that is at least as hot.
use Rattle.std.proofs.Common.{ℕ, Bool, true, false, cond, eqb}
use Rattle.control.specs.State.{Warmer}
use Rattle.control.specs.declared.state.Loop.{Loop}
use Rattle.control.proofs.Warmth.{warmer_off}
use Rattle.own.specs.State.{HotterOwn, OwnState, fresh, with_loop, with_tach}

pub hotter_fresh : HotterOwn fresh fresh
hotter_fresh c = warmer_off

module _ (a b : OwnState) (hotter : HotterOwn a b) where
  -- a tachometer has no part in it
  pub hotter_tach : (f m n : ℕ) → HotterOwn (with_tach a f m) (with_tach b f n)
  hotter_tach f m n c = hotter c

  pub hotter_loop : {x y : Loop} → Warmer x y → (d : ℕ) → HotterOwn (with_loop a d x) (with_loop b d y)
  hotter_loop {x} {y} warmer d c = at (eqb c d)
    where
      at : (t : Bool) → Warmer (cond t x (a.loops c)) (cond t y (b.loops c))
      at true = warmer
      at false = hotter c

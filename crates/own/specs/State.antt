-- What the own state of a unit means, whatever its kind, and when one is at least as hot as another.
use Rattle.std.specs.Prelude.{ℕ, cond, nat_lt, slice_index, slice_index_or}
use Rattle.control.specs.State.{Warmer, off}
use Rattle.control.specs.declared.state.Loop.{Loop}
use Rattle.unit.specs.Steps.{put}
use Rattle.own.specs.declared.Own.{Own}

pub record OwnState : Type 0 where
  pub tachs : ℕ → ℕ  -- the last tachometer reading of each fan
  pub loops : ℕ → Loop  -- the control loop of each channel

abbrev pub own_of : {F C : ℕ} → Own F C → OwnState
own_of o = record { tachs = λ n. slice_index o.tachs n; loops = λ n. slice_index_or o.loops n off }

-- as after a reset
abbrev pub fresh : OwnState
fresh = record { tachs = λ n. 0; loops = λ n. off }

abbrev pub with_tach : OwnState → ℕ → ℕ → OwnState
with_tach o f t = record { tachs = put o.tachs f t; loops = o.loops }

abbrev pub with_loop : OwnState → ℕ → Loop → OwnState
with_loop o c l = record { tachs = o.tachs; loops = put o.loops c l }

-- b if there is a part with this number, of n, else a
abbrev pub if_there : ℕ → ℕ → OwnState → OwnState → OwnState
if_there i n b a = cond (nat_lt i n) b a

-- every loop of b is at least as hot as that of a
abbrev pub HotterOwn : OwnState → OwnState → Type 0
HotterOwn a b = (c : ℕ) → Warmer (a.loops c) (b.loops c)

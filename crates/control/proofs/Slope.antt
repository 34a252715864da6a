-- The laws of the level between the start and full duty: all that other proofs use of its formula.
use Rattle.std.proofs.Common.{ℕ, zero, suc, ◌-◌, ◌*◌, ◌/◌, ◌≤◌, mul_comm, mul-le-mul_left, div-mul-le_self, arith}
use native.Mathlib.Nat.{div-le_of_le-mul, div-zero}
use Rattle.control.specs.Loop.{ramp_level}
use Rattle.std.proofs.lemmas.Nat.{le-div}

quotient_rises : (a b k : ℕ) → a ≤ b → a / k ≤ b / k
quotient_rises a b zero h = omega (arith, div-zero a)
quotient_rises a b (suc k) h = le-div (a / suc k) b (suc k) (omega arith) (omega (arith, div-mul-le_self a (suc k)))

pub ramp_rises : (m width a b : ℕ) → a ≤ b → ramp_level m width a ≤ ramp_level m width b
unfolding ramp_level
ramp_rises m width a b h =
    omega (arith, quotient_rises ((255 - m) * a) ((255 - m) * b) width (mul-le-mul_left (255 - m) h))

pub ramp_from : (m width a : ℕ) → m ≤ 255 → m ≤ ramp_level m width a
unfolding ramp_level
ramp_from m width a b = omega arith

pub ramp_to : (m width a : ℕ) → m ≤ 255 → a ≤ width → ramp_level m width a ≤ 255
unfolding ramp_level
ramp_to m width a b h =
    let share : (255 - m) * a ≤ width * (255 - m) = rw (mul_comm width (255 - m)) (mul-le-mul_left (255 - m) h) in
    omega (arith, div-le_of_le-mul width share)

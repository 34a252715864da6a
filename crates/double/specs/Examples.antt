-- Worked examples of a double unit, all together as one fact.
use Rattle.std.specs.Prelude.{◌≡◌, ℕ, true, false, List, [], ◌∷◌, pos, Ok}
use Rattle.fault.specs.declared.Cause.TheVariants.{RangeCode}
use Rattle.unit.specs.Answers.{refused, write_answer}
use Rattle.unit.specs.Kind.{State, made}
use Rattle.unit.specs.Levels.{level_of, pulls_line}
use Rattle.unit.specs.Steps.{report_in, write_in}
use Rattle.double.specs.Kinds.{double}

-- after these writes, each a register and a byte
abbrev pub wrote : State double → List (ℕ × ℕ) → State double
wrote u [] = u
wrote u (x ∷ xs) = wrote (write_in double u x.0 x.1) xs

-- a unit of strap 7: alarm level 255 and minimum 85 for fan 1, which remote 2 drives; its high limit is 70, its alarm bit set
abbrev pub ready : State double
ready = wrote (made double 7) ((0x60, 0xf5) ∷ (0x92, 0x46) ∷ (0x42, 0x02) ∷ (0x4a, 0x01) ∷ (0x01, 0x10) ∷ [])

-- the level of fan 1 of a unit that is alone on its line
abbrev pub first_fan : State double → ℕ
first_fan u = level_of double u (pulls_line double u) 0

abbrev pub at_limit : State double
at_limit = report_in double ready 10 (pos 70)

abbrev pub above_limit : State double
above_limit = report_in double at_limit 10 (pos 71)

abbrev pub back_at_limit : State double
back_at_limit = report_in double above_limit 10 (pos 70)

abbrev pub hold_ended : State double
hold_ended = write_in double back_at_limit 0x42 0x02

-- the settings of a unit of strap 0 with a tachometer limit of 99h for fan 1
abbrev pub tach_limited : ℕ → ℕ
tach_limited = (wrote (made double 0) ((0x78, 0x99) ∷ [])).page

pub record WorkedExamples : Type 0 where
  pub well : first_fan at_limit ≡ 85
  pub failing : first_fan above_limit ≡ 255
  pub held : first_fan back_at_limit ≡ 255
  pub cleared : first_fan hold_ended ≡ 85
  pub tach_well : double.fails tach_limited 2 (pos 153) ≡ false
  pub tach_fails : double.fails tach_limited 2 (pos 154) ≡ true
  pub code_taken : write_answer double 0x88 0x54 ≡ Ok tt
  pub code_refused : write_answer double 0x88 0x55 ≡ refused RangeCode

-- The byte of 10h and 11h: the marks of a fan's four sources.
use Rattle.std.specs.Prelude.{◌≡◌, ℕ, ◌+◌, Bool, cond}
use Rattle.double_settings.specs.Parts.{source_number}
use Rattle.double_settings.specs.declared.parts.Fan.{Fan}
use Rattle.double_settings.specs.declared.parts.FanSource.{FanSource}
use Rattle.double_settings.specs.declared.parts.FanSource.TheVariants.{Missing, Fault, Tach, HotPlug}
use Rattle.double_settings.specs.declared.parts.Source.TheVariants.{OfFan}
use Rattle.quantity.specs.Quantities.{bit}
use Rattle.unit.specs.declared.mark.Mark.{Mark}
use Rattle.double.specs.Sources.{held_bit}

abbrev pub weight : Bool → ℕ → ℕ
weight on w = cond on w 0

abbrev pub status_byte : Mark → Mark → Mark → Mark → ℕ
status_byte missing fault tach hotPlug =
    weight missing.failing 0x01 + weight missing.held 0x02 + weight fault.held 0x04 + weight fault.failing 0x08
    + weight tach.failing 0x10 + weight hotPlug.failing 0x20 + weight tach.held 0x40 + weight hotPlug.held 0x80

-- the bit that shows whether a fan's source is failing
abbrev pub failing_bit : FanSource → ℕ
failing_bit Missing = 0
failing_bit Fault = 3
failing_bit Tach = 4
failing_bit HotPlug = 5

-- a byte shows a mark of a source: its failing bit and its held bit are those of the mark
pub record Shows (b : ℕ) (k : FanSource) (m : Mark) : Type 0 where
  pub failing : bit b (failing_bit k) ≡ m.failing
  pub held : bit b (held_bit k) ≡ m.held

-- it shows all four
pub record AllShown (b : ℕ) (m f t h : Mark) : Type 0 where
  pub missing : Shows b Missing m
  pub fault : Shows b Fault f
  pub tach : Shows b Tach t
  pub plug : Shows b HotPlug h

-- the mark of a fan's source
abbrev pub mark_of : (ℕ → Mark) → Fan → FanSource → Mark
mark_of m f k = m (source_number (OfFan f k))

-- the byte of a fan's sources, of all marks
abbrev pub status_of : (ℕ → Mark) → Fan → ℕ
status_of m f = status_byte (mark_of m f Missing) (mark_of m f Fault) (mark_of m f Tach) (mark_of m f HotPlug)

-- The parts of a unit, as functions of the register and of the source.
use Rattle.std.specs.Prelude.{ℕ, slice_index, slice_index_or}
use Rattle.unit.specs.declared.mark.Mark.{Mark}
use Rattle.unit.specs.declared.marks.Marks.{Marks}
use Rattle.unit.specs.declared.page.Page.{Page}
use Rattle.unit.specs.Kind.{clear}

abbrev pub bytes_of : Page → ℕ → ℕ
bytes_of p = λ r. slice_index p.bytes r

abbrev pub marks_of : {N : ℕ} → Marks N → ℕ → Mark
marks_of m = λ n. slice_index_or m.records n clear

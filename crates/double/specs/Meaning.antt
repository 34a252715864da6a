-- What a double unit of the code means.
use Rattle.std.specs.Prelude.{ℤ, int_lt}
use Rattle.double_settings.specs.Parts.{source_number}
use Rattle.double_settings.specs.Settings.{holds, limit_of, settings_of}
use Rattle.double_settings.specs.declared.parts.Source.{Source}
use Rattle.own.specs.State.{own_of}
use Rattle.unit.specs.Kind.{State}
use Rattle.unit.specs.Parts.{marks_of}
use Rattle.unit.specs.Steps.{marked, put}
use Rattle.double.specs.declared.Double.{Double}
use Rattle.double.specs.Kinds.{double}
use Rattle.double.specs.Own.{reported_by}

abbrev pub state_of : Double → State double
state_of u = record { strap = u.strap.0; page = settings_of u.settings; marks = marks_of u.marks; own = own_of u.own }

-- a unit after a report of source x: it changes that source's mark, and the own state
abbrev pub noted : State double → Source → ℤ → State double
noted u x v = record {
  strap = u.strap;
  page = u.page;
  marks = put u.marks (source_number x) (marked (int_lt (limit_of u.page x) v) (holds u.page x) (u.marks (source_number x)));
  own = reported_by u.page u.own v x;
}

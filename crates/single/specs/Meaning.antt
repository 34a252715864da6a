-- What a single unit of the code means.
use Rattle.own.specs.State.{own_of}
use Rattle.unit.specs.Kind.{State}
use Rattle.unit.specs.Parts.{marks_of}
use Rattle.single.specs.declared.Single.{Single}
use Rattle.single.specs.Kinds.{single}
use Rattle.single.specs.Settings.{settings_of}

-- it has no strap
abbrev pub state_of : Single → State single
state_of u = record { strap = 0; page = settings_of u.settings; marks = marks_of u.marks; own = own_of u.own }

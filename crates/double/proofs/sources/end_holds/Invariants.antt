use Rattle.std.proofs.Common.{◌≡◌, false}
use Rattle.unit.specs.Parts.{marks_of}
use Rattle.unit.specs.Steps.{ended}
use Rattle.unit.proofs.Parts.{up_to}
use Rattle.double.specs.Sources.{ends_hold, of_source}
use Rattle.double.proofs.sources.end_holds.Given as goal

abbrev pub invariant-loop-source : goal.invariant-loop-source
invariant-loop-source l = marks_of l.marks ≡ up_to (λ n m. ended (of_source false (ends_hold l.register l.byte) n) m) (marks_of l.initial.marks) l.source-index

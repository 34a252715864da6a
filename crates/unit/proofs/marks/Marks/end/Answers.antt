use Rattle.std.proofs.Common.{rules, tests}
use Rattle.unit.specs.Steps.{ended}
use Rattle.unit.proofs.marks.Marks.end.Goals as goal

pub returns : goal.returns
returns g c = c.change.ensures (ended c.args.over) (λ mark r h. search (rules, tests))

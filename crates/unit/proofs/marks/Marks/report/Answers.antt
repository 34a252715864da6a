use Rattle.std.proofs.Common.{rules, tests}
use Rattle.unit.specs.Steps.{marked}
use Rattle.unit.proofs.marks.Marks.report.Goals as goal

pub returns : goal.returns
returns g c = c.change.ensures (marked c.args.fails c.args.latches) (λ mark r h. search (rules, tests))

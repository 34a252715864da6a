use Rattle.std.proofs.Common.{rules}
use Rattle.unit.proofs.Offered.{pulls_decides}
use Rattle.unit.proofs.level.pulls_line.Goals as goal

pub returns-else-forced-clause-decides : goal.returns-else-forced-clause-decides
returns-else-forced-clause-decides g c = pulls_decides g.U.Unit.kind (g.U.Unit.state c.args.unit.now) c.some_cause.result (search rules)

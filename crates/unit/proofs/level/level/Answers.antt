use Rattle.std.proofs.Common.{rules}
use Rattle.unit.proofs.Offered.{greatest_level}
use Rattle.unit.proofs.level.level.Goals as goal

pub returns-clause-greatest : goal.returns-clause-greatest
returns-clause-greatest g c = greatest_level g.U.Unit.kind (g.U.Unit.state c.args.unit.now) c.args.low c.args.fan c.max.result (search rules)

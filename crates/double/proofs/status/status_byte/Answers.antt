use Rattle.std.proofs.Common.{rules}
use Rattle.double.proofs.Shown.{all_shown}
use Rattle.double.proofs.status.status_byte.Goals as goal

pub returns-clause-shows : goal.returns-clause-shows
returns-clause-shows c = all_shown _ c.args.missing c.args.fault c.args.tach c.args.hot_plug (search rules)

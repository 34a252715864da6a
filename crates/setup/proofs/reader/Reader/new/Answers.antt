use Rattle.setup.proofs.Cuts.{cut}
use Rattle.setup.proofs.reader.Reader.new.Goals as goal

pub returns-clause-cut : goal.returns-clause-cut
returns-clause-cut c = cut c.args.list.now

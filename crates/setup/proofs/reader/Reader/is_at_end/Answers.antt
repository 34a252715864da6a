use Rattle.std.proofs.Common.{ap, ◌∙◌, rules}
use Rattle.setup.specs.Reading.{none}
use Rattle.setup.proofs.Lined.{none_left}
use Rattle.setup.proofs.reader.Reader.is_at_end.Goals as goal

pub returns : goal.returns
returns c = let left = none_left c.self.inside.place c.self.inside.list.now c.self.invariant.within ∙ ap none c.self.view_is in search rules

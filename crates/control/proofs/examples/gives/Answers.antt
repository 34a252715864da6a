-- A range has the code that it was asked for.
use Rattle.std.proofs.Common.{rules}
use Rattle.control.proofs.examples.gives.Goals as goal

pub returns : goal.returns
returns c = grind rules

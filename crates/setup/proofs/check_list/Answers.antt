use Rattle.setup.proofs.Made.{good_when_made, same_with_newline}
use Rattle.setup.proofs.check_list.Goals as goal

pub returns-clause-made : goal.returns-clause-made
returns-clause-made c = good_when_made _ _ c.check_whole.ensures

pub returns-clause-newline : goal.returns-clause-newline
returns-clause-newline c = same_with_newline _ _ c.check_whole.ensures

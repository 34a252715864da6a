use Rattle.unit.proofs.Parts.{all_same}
use Rattle.unit.proofs.page.Page.zero.Goals as goal

pub returns : goal.returns
returns c = λ i r. all_same 256 0 r i

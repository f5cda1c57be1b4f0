use Rattle.trees.proofs.Numbering.{one_numbering}
use Rattle.trees.proofs.theorems.one_numbering.Goals as goal

pub returns : goal.returns
returns c = one_numbering

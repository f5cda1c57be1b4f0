use Rattle.trees.proofs.Sharing.{one_tree}
use Rattle.trees.proofs.theorems.one_tree.Goals as goal

pub returns : goal.returns
returns c = one_tree

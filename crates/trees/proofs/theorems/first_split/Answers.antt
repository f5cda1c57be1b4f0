use Rattle.trees.proofs.Pairing.{first_split}
use Rattle.trees.proofs.theorems.first_split.Goals as goal

pub returns : goal.returns
returns c = first_split

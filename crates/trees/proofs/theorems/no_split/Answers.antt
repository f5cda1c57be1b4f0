use Rattle.trees.proofs.Pairing.{no_split}
use Rattle.trees.proofs.theorems.no_split.Goals as goal

pub returns : goal.returns
returns c = no_split

use Rattle.trees.proofs.Sharing.{lines_anew}
use Rattle.trees.proofs.theorems.lines_anew.Goals as goal

pub returns : goal.returns
returns c = lines_anew

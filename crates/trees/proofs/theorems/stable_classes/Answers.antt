use Rattle.trees.proofs.Classes.{stable_classes}
use Rattle.trees.proofs.theorems.stable_classes.Goals as goal

pub returns : goal.returns
returns c = stable_classes

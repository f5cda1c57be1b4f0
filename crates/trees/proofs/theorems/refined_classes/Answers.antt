use Rattle.trees.proofs.Classes.{refined_classes}
use Rattle.trees.proofs.theorems.refined_classes.Goals as goal

pub returns : goal.returns
returns c = refined_classes

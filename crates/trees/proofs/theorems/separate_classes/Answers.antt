use Rattle.trees.proofs.Classes.{separate_classes}
use Rattle.trees.proofs.theorems.separate_classes.Goals as goal

pub returns : goal.returns
returns c = separate_classes

use Rattle.trees.proofs.Labels.{normal_over_labels}
use Rattle.trees.proofs.theorems.normal_over_labels.Goals as goal

pub returns : goal.returns
returns c = normal_over_labels

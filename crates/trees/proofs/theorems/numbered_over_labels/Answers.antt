use Rattle.trees.proofs.Labels.{numbered_over_labels}
use Rattle.trees.proofs.theorems.numbered_over_labels.Goals as goal

pub returns : goal.returns
returns c = numbered_over_labels

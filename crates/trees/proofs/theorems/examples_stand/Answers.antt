use Rattle.trees.proofs.Examples.{examples}
use Rattle.trees.proofs.theorems.examples_stand.Goals as goal

pub returns : goal.returns
returns c = examples

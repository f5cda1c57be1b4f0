use Rattle.trees.proofs.Minimal.{fewest_states}
use Rattle.trees.proofs.theorems.fewest_states.Goals as goal

pub returns : goal.returns
returns c = fewest_states

use Rattle.trees.proofs.Counting.{apart_needs_states}
use Rattle.trees.proofs.theorems.apart_needs_states.Goals as goal

pub returns : goal.returns
returns c = apart_needs_states

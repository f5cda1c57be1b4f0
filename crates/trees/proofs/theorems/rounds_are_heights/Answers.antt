use Rattle.trees.proofs.Reaching.{rounds_are_heights}
use Rattle.trees.proofs.theorems.rounds_are_heights.Goals as goal

pub returns : goal.returns
returns c = rounds_are_heights

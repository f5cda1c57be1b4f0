use Rattle.examples.proofs.examples_hold.Goals as goal
use Rattle.examples.proofs.Examples.{all_hold}

pub returns : goal.returns
returns c = all_hold

use Rattle.trees.proofs.Pairing.{one_pairing}
use Rattle.trees.proofs.theorems.one_pairing.Goals as goal

pub returns : goal.returns
returns c = one_pairing

use Rattle.trees.proofs.ByRules.{sets_by_rules}
use Rattle.trees.proofs.theorems.sets_by_rules.Goals as goal

pub returns : goal.returns
returns c = sets_by_rules

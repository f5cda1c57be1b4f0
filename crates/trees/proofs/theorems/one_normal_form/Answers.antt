use Rattle.trees.proofs.NormalForms.{one_normal_form}
use Rattle.trees.proofs.theorems.one_normal_form.Goals as goal

pub returns : goal.returns
returns c = one_normal_form

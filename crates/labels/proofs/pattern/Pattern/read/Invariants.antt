use Rattle.labels.proofs.Masks.{Read}
use Rattle.labels.proofs.pattern.Pattern.read.Given as goal

abbrev pub invariant-loop-b : goal.invariant-loop-b
invariant-loop-b l = Read l.text l.b-index l.care l.value

use Rattle.std.proofs.Common.{length, vec_items}
use Rattle.text.proofs.Lines.{Sofar}
use Rattle.text.proofs.token.scan.Given as goal

abbrev pub invariant-loop-rest : goal.invariant-loop-rest
invariant-loop-rest l = Sofar l.text l.rest l.line (vec_items l.tokens)

abbrev pub decreases-loop-rest : goal.decreases-loop-rest
decreases-loop-rest l = length l.rest

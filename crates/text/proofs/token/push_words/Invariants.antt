use Rattle.std.proofs.Common.{length, vec_items}
use Rattle.text.proofs.Cutting.{Pushing}
use Rattle.text.proofs.token.push_words.Given as goal

abbrev pub invariant-loop-word : goal.invariant-loop-word
invariant-loop-word l = Pushing l.line l.text l.rest (vec_items l.initial.tokens) (vec_items l.tokens)

abbrev pub decreases-loop-word : goal.decreases-loop-word
decreases-loop-word l = length l.rest

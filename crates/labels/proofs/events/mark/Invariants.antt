use Rattle.labels.specs.Masks.{admits}
use Rattle.labels.proofs.Tables.{MarkedTo}
use Rattle.labels.proofs.events.mark.Given as goal

abbrev pub invariant-loop-i : goal.invariant-loop-i
invariant-loop-i l = MarkedTo l.initial.sets l.guard (admits l.pattern) l.i l.sets

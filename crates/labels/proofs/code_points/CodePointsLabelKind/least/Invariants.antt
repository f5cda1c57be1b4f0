use Rattle.labels.specs.Ranges.{code_meaning}
use Rattle.labels.proofs.CodePoints.{Searched}
use Rattle.labels.proofs.code_points.CodePointsLabelKind.least.Given as goal

abbrev pub invariant-loop-given : goal.invariant-loop-given
invariant-loop-given l = Searched (code_meaning l.self.ranges.items l.self.guards) l.fn.yes.0 l.fn.no.0 l.given-items l.given-index l.best

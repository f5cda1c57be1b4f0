use Rattle.atoms.specs.Drafts.{first, Covers}
use Rattle.atoms.proofs.split.all_atoms.Given as goal

abbrev pub invariant-loop-g : goal.invariant-loop-g
invariant-loop-g g l = Covers (first l.g (g.K.LabelKind.book l.kind).meaning) (λ x. Unit {0}) l.atoms.items

use Rattle.std.proofs.Common.{◌+◌}
use Rattle.atoms.specs.Drafts.{first, Covers}
use Rattle.atoms.proofs.Dividing.{Among}
use Rattle.atoms.proofs.split.divide.Given as goal

abbrev pub invariant-loop-atom : goal.invariant-loop-atom
invariant-loop-atom g l =
    let m = (g.K.LabelKind.book l.kind).meaning in
    Covers (first (l.g + 1) m) (Among (first l.g m) l.whole l.atom-index) l.parts.items

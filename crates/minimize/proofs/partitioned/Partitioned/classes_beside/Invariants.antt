use Rattle.std.proofs.Common.{◌≡◌, length}
use Rattle.minimize.specs.Rows.{RowOf}
use Rattle.minimize.proofs.partitioned.Partitioned.classes_beside.Given as goal

-- the entries written so far
abbrev pub invariant-loop-a : goal.invariant-loop-a
invariant-loop-a g l = (length l.classes ≡ 16) × RowOf l.self l.a l.x l.q l.classes

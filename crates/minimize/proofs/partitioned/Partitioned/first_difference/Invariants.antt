use Rattle.minimize.specs.Rows.{RowOf}
use Rattle.minimize.proofs.partitioned.Partitioned.first_difference.Given as goal

abbrev pub invariant-loop-a : goal.invariant-loop-a
invariant-loop-a g l = RowOf l.self l.a l.x l.q l.wanted

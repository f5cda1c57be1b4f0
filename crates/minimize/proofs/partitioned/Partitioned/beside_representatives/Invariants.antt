use Rattle.std.proofs.Common.{◌≡◌, length}
use Rattle.minimize.specs.Rows.{TableOf}
use Rattle.minimize.proofs.partitioned.Partitioned.beside_representatives.Given as goal

-- the rows written so far
abbrev pub invariant-loop-i : goal.invariant-loop-i
invariant-loop-i g l = (length l.table ≡ 32) × TableOf l.self l.i l.x l.table

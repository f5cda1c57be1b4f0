use Rattle.std.proofs.Common.{ℕ, ◌<◌}
use Rattle.minimize.specs.Looks.{atom_count, AnswersAlike}
use Rattle.minimize.specs.declared.test.Test.TheVariants.{Right}
use Rattle.minimize.proofs.partitioned.Partitioned.right_of.Given as goal

abbrev pub invariant-loop-y : goal.invariant-loop-y
invariant-loop-y g l =
    (z a : ℕ) → z < l.y → a < atom_count l.self → AnswersAlike l.self (Right l.x a) z

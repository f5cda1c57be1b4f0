use Rattle.std.proofs.Common.{ℕ, ◌<◌}
use Rattle.minimize.specs.Looks.{atom_count, rep_of, AnswersAlike}
use Rattle.minimize.specs.declared.test.Test.TheVariants.{Left}
use Rattle.minimize.proofs.partitioned.Partitioned.left_of.Given as goal

abbrev pub invariant-loop-i : goal.invariant-loop-i
invariant-loop-i g l =
    (j a : ℕ) → j < l.i → a < atom_count l.self → AnswersAlike l.self (Left (rep_of l.self j) a) l.p

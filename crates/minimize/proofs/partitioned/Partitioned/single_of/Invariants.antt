use Rattle.std.proofs.Common.{ℕ, ◌<◌}
use Rattle.minimize.specs.Looks.{AnswersAlike}
use Rattle.minimize.specs.declared.test.Test.TheVariants.{Single}
use Rattle.minimize.proofs.partitioned.Partitioned.single_of.Given as goal

abbrev pub invariant-loop-a : goal.invariant-loop-a
invariant-loop-a g l = (a : ℕ) → a < l.a → AnswersAlike l.self (Single a) l.p

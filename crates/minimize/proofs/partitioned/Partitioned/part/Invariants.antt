use Rattle.std.proofs.Common.{ℕ, ◌<◌}
use Rattle.minimize.specs.Looks.{automaton, class_of, rep_of}
use Rattle.minimize.specs.Partitions.{Moved}
use Rattle.minimize.specs.Tests.{at}
use Rattle.minimize.proofs.partitioned.Partitioned.part.Given as goal

abbrev pub invariant-loop-p : goal.invariant-loop-p
invariant-loop-p g l =
    (q : ℕ) → q < l.p → Moved (automaton l.self) l.self.classes.now l.found.test (rep_of l.self (class_of l.self l.found.state)) l.self.count q (at l.next q)

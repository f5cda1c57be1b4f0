use Rattle.std.proofs.Common.{◌≡◌, ◌-◌, length}
use Rattle.trees.specs.Classes.{Separate}
use Rattle.minimize.specs.Automata.{atoms_below}
use Rattle.minimize.specs.Partitions.{Partition}
use Rattle.minimize.specs.Tests.{at}
use Rattle.minimize.proofs.refine.minimize.Given as goal

abbrev pub invariant-loop-found : goal.invariant-loop-found
invariant-loop-found g l =
    Partition (g.M.TreeAutomaton.meaning l.m) l.classes l.reps l.count
    × Separate (atoms_below (g.M.TreeAutomaton.letters l.m)) (g.M.TreeAutomaton.meaning l.m) (at l.classes)
    × (length l.next ≡ length l.classes)

abbrev pub decreases-loop-found : goal.decreases-loop-found
decreases-loop-found g l = 32 - l.count

use Rattle.std.proofs.Common.{◌-◌, length}
use Rattle.explore.specs.Search.{Grows, Stands}
use Rattle.explore.proofs.rounds.all_rounds.Given as goal

-- a round has ended
abbrev pub invariant-loop-round : goal.invariant-loop-round
invariant-loop-round g l = Stands (g.S.Stepping.steps l.steps) l.found l.firsts l.round 3 0 0 0 × Grows l.fn.found l.found

abbrev pub decreases-loop-round : goal.decreases-loop-round
decreases-loop-round g l = length l.fn.found.entries.now - l.round.start

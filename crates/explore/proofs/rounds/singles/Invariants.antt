use Rattle.explore.specs.Search.{Grows, Stands}
use Rattle.explore.proofs.rounds.singles.Given as goal

abbrev pub invariant-loop-p : goal.invariant-loop-p
invariant-loop-p g l = Stands (g.S.Stepping.steps l.steps) l.found l.firsts l.round 1 l.p 0 0 × Grows l.fn.found l.found

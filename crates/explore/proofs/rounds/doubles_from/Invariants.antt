use Rattle.explore.specs.Search.{Grows, Stands}
use Rattle.explore.proofs.rounds.doubles_from.Given as goal

abbrev pub invariant-loop-q : goal.invariant-loop-q
invariant-loop-q g l = Stands (g.S.Stepping.steps l.steps) l.found l.firsts l.round 2 l.p l.q 0 × Grows l.fn.found l.found

use Rattle.explore.specs.Search.{Grows, Stands, count, left, right}
use Rattle.explore.proofs.rounds.labels.Given as goal

abbrev pub invariant-loop-a : goal.invariant-loop-a
invariant-loop-a g l =
    Stands (g.S.Stepping.steps l.steps) l.found l.firsts l.fn.round (count l.children) (left l.children) (right l.children) l.a × Grows l.fn.found l.found

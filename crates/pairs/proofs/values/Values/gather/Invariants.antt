use Rattle.std.proofs.Common.{ℕ, Bool}
use Rattle.pairs.specs.Search.{Gives}
use Rattle.pairs.specs.declared.value.PairValue.{PairValue}
use Rattle.pairs.proofs.Gathering.{Sofar}
use Rattle.pairs.proofs.values.Values.gather.Given as goal

abbrev pub invariant-loop-g : goal.invariant-loop-g
invariant-loop-g g l = (kept : PairValue → Bool) (number : PairValue → ℕ) → Gives g.K.Fn l.keep kept → Gives g.P.Fn l.part number → Sofar l.self.list l.guards.0 kept number l.g l.set.0

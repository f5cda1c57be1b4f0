use Rattle.std.proofs.Common.{refl, arith}
use Rattle.pairs.proofs.Empty.{none_at, none_known, none_small}
use Rattle.pairs.proofs.values.Values.none.Goals as goal

pub invariant_of-result : goal.invariant_of-result
invariant_of-result c = record { long = refl; few = omega arith; known = λ g up. none_known 32 g; small = none_small 32 }

pub returns-clause-none : goal.returns-clause-none
returns-clause-none c = none_at 32

use Rattle.bench.proofs.Writing.{ClearedTo}
use Rattle.bench.proofs.bench.clear_all.Given as goal

abbrev pub invariant-loop-k : goal.invariant-loop-k
invariant-loop-k l = ClearedTo l.initial.bytes l.k l.bytes

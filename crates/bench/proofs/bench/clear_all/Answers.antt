use Rattle.std.proofs.Common.{arith}
use Rattle.bench.proofs.Writing.{one_cleared}
use Rattle.bench.proofs.bench.clear_all.Goals as goal

pub loop-k-preserved : goal.loop-k-preserved
loop-k-preserved c =
    one_cleared c.args.bytes.now c.loop-k.bytes c.clear.new.shelf c.loop-k.k _ c.loop-k.invariant (omega (arith, c.shelves_in-k-end.ensures, c.loop-k.auto.bytes)) (omega arith) c.clear.ensures

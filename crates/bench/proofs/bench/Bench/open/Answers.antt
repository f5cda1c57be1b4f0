use Rattle.std.proofs.Common.{arith}
use Rattle.bench.proofs.Fresh.{fresh_sound}
use Rattle.bench.specs.Benches.{shelf_at}
use Rattle.bench.proofs.bench.Bench.open.Goals as goal

pub invariant_of-result : goal.invariant_of-result
invariant_of-result c =
    let opened = c.clear_all.ensures in
    let long = opened.long in
    record { sound = λ k l. ∣ fresh_sound c.args.table.count c.args.table.some (shelf_at c.clear_all.new.bytes k) (opened.fresh k (omega arith)) ∣₁ }

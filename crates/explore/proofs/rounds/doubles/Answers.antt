use Rattle.std.proofs.Common.{arith}
use Rattle.explore.proofs.Positions.{doubles_done}
use Rattle.explore.proofs.rounds.doubles.Goals as goal

pub returns : goal.returns
returns g c =
    let inv = c.loop-p.invariant in
    (record { room = inv.0.room; at = doubles_done c.loop-p.p (omega (arith, c.loop-p.auto.p-end, c.loop-p-test.false)) inv.0.at }, inv.1)

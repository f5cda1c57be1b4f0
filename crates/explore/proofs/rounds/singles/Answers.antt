use Rattle.std.proofs.Common.{◌≡◌, true, rules, arith}
use Rattle.explore.proofs.Advancing.{fine_at, grows_more}
use Rattle.explore.proofs.Positions.{next_single, to_doubles}
use Rattle.explore.proofs.rounds.singles.Goals as goal

pub labels-requires-clause-may : goal.labels-requires-clause-may
labels-requires-clause-may g c =
    let stands = c.loop-p.invariant.0 in
    let fine : (g.S.Stepping.steps c.args.steps.now).fine c.get-child.result ≡ true = fine_at c.fit.ensures stands c.loop-p.p (omega (arith, c.loop-p-test.true, stands.at.ordered.1)) c.get-child.result c.get-child.ensures in
    search rules

pub loop-p-preserved : goal.loop-p-preserved
loop-p-preserved g c =
    let to = c.in_ok-labels.ensures in
    (record { room = to.0.room; at = next_single c.loop-p.p to.0.at }, grows_more c.loop-p.invariant.1 to.1)

pub returns : goal.returns
returns g c =
    let inv = c.loop-p.invariant in
    (record { room = inv.0.room; at = to_doubles c.loop-p.p (omega (arith, c.loop-p.auto.p-end c.requires.stands.at.ordered.0, c.loop-p-test.false)) inv.0.at }, inv.1)

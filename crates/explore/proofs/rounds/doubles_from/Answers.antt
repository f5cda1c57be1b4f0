use Rattle.std.proofs.Common.{◌≡◌, ◌≤◌, true, rules, sym, subst, arith}
use Rattle.explore.specs.Search.{Stands}
use Rattle.explore.proofs.Advancing.{fine_at, grows_none, grows_more}
use Rattle.explore.proofs.Positions.{skip_old, next_left, next_right}
use Rattle.explore.proofs.rounds.doubles_from.Goals as goal
use Rattle.explore.proofs.rounds.doubles_from.Goals.{then-p-round, else-p-round}

pub row-row-requires : goal.row-row-requires
row-row-requires g c =
    let stands = c.requires.stands in
    record { sound = c.requires.sound; fine = fine_at c.fit.ensures stands c.args.p (omega (arith, c.requires.turn, stands.at.ordered.1)) c.get-left.result c.get-left.ensures }

pub loop-q-init : goal.loop-q-init
loop-q-init g c =
    let s = c.args.found.now in
    let stands = Stands (g.S.Stepping.steps c.args.steps.now) s c.args.firsts.now c.args.round 2 c.args.p in
    let from = c.requires.stands in
    let begun : stands c.if-p-round.from 0 = elim c.if-p-round.branch [ then-p-round w ↦ subst (λ q. stands q 0) (sym w.from-is) (record { room = from.room; at = skip_old c.args.p w.if-p-round.true from.at }) | else-p-round w ↦ subst (λ q. stands q 0) (sym w.from-is) from ] in
    (begun, grows_none s)

pub labels-requires-clause-may : goal.labels-requires-clause-may
labels-requires-clause-may g c =
    let S = g.S.Stepping.steps c.args.steps.now in
    let fit = c.fit.ensures in
    let before = c.requires.stands in
    let stands = c.loop-q.invariant.0 in
    let left : S.fine c.get-left.result ≡ true = fine_at fit before c.args.p (omega (arith, c.requires.turn, before.at.ordered.1)) c.get-left.result c.get-left.ensures in
    let right : S.fine c.get-right.result ≡ true = fine_at fit stands c.loop-q.q (omega (arith, c.loop-q-test.true, stands.at.ordered.1)) c.get-right.result c.get-right.ensures in
    search rules

pub loop-q-preserved : goal.loop-q-preserved
loop-q-preserved g c =
    let to = c.in_ok-labels.ensures in
    (record { room = to.0.room; at = next_right c.args.p c.loop-q.q to.0.at }, grows_more c.loop-q.invariant.1 to.1)

pub returns : goal.returns
returns g c =
    let inv = c.loop-q.invariant in
    let low : c.if-p-round.from ≤ c.args.round.start = elim c.if-p-round.branch [ then-p-round w ↦ omega (arith, w.from-is, c.requires.stands.at.ordered.0) | else-p-round w ↦ omega (arith, w.from-is) ] in
    (record { room = inv.0.room; at = next_left c.args.p c.loop-q.q (omega (arith, c.loop-q.auto.q-end low, c.loop-q-test.false)) inv.0.at }, inv.1)

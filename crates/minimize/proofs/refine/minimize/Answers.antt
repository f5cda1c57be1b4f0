use Rattle.std.proofs.Common.{refl, ◌∙◌, arith}
use Rattle.minimize.proofs.Parting.{parted_classes, too_many}
use Rattle.minimize.proofs.refine.minimize.Goals as goal

pub returns-then-count-eq-MOST : goal.returns-then-count-eq-MOST
returns-then-count-eq-MOST g c =
    let n = g.M.TreeAutomaton.letters c.args.m.now in
    let A = g.M.TreeAutomaton.meaning c.args.m.now in
    let complete = c.fit.ensures.complete in
    too_many n A _ _ _ c.in-Some.found c.loop-found.invariant.0 c.in-Some.ensures c.if-count-eq-MOST.true complete c.loop-found.invariant.1

pub loop-found-preserved : goal.loop-found-preserved
loop-found-preserved g c =
    let n = g.M.TreeAutomaton.letters c.args.m.now in
    let A = g.M.TreeAutomaton.meaning c.args.m.now in
    let complete = c.fit.ensures.complete in
    let whole = c.loop-found.invariant.0 in
    let long = c.part.ensures.long ∙ (c.loop-found.invariant.2 ∙ whole.states) in
    let finer = parted_classes n A _ _ _ c.in-Some.found whole c.in-Some.ensures _ (omega (arith, whole.few)) long c.part.ensures.parted complete c.loop-found.invariant.1 in
    rw c.copy_from_slice.ensures.after (finer.0, finer.1, refl)

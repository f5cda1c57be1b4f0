use Rattle.std.proofs.Common.{◌≡◌, rules}
use Rattle.labels.specs.Ranges.{code_meaning}
use Rattle.labels.proofs.CodePoints.{one_searched, all_searched}
use Rattle.labels.proofs.code_points.CodePointsLabelKind.least.Goals as goal

pub loop-given-preserved : goal.loop-given-preserved
loop-given-preserved c =
    one_searched (code_meaning c.args.self.now.ranges.items c.args.self.now.guards) c.args.yes.0 c.args.no.0 c.deref-given-items.result.now c.loop-given.given-index
    c.skip_surrogates.result c.skip_surrogates-in-loop-given.result c.loop-given.best c.lesser-best-in-loop-given.result c.lesser-best-in-loop-given-2.result
    c.skip_surrogates.ensures c.skip_surrogates-in-loop-given.ensures c.loop-given.invariant c.lesser-best-in-loop-given.ensures c.lesser-best-in-loop-given-2.ensures

pub returns : goal.returns
returns c =
    let same : c.map.result ≡ c.loop-given.best = search rules in
    rw same
    (all_searched c.args.self.now.ranges.items c.args.self.now.guards c.args.yes.0 c.args.no.0 c.loop-given.given-index c.loop-given.best
    (rw c.deref-given-items.ensures.value at c.loop-given-test.false) (rw c.deref-given-items.ensures.value at c.loop-given.invariant))

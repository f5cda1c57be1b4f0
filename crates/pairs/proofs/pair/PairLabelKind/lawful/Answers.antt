use Rattle.pairs.specs.Laws.{pair_lawful}
use Rattle.pairs.proofs.pair.PairLabelKind.lawful.Goals as goal

pub returns : goal.returns
returns g c =
    let p = c.args.self.now in
    pair_lawful (g.A.LabelKind.book p.first).meaning (g.B.LabelKind.book p.second).meaning p.values.list p.values.guards c.lawful.ensures c.lawful-2.ensures c.narrow.ensures.first c.narrow.ensures.second p.values.few p.values.known

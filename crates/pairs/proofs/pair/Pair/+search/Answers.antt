use Rattle.pairs.specs.Pairs.{pair_meaning}
use Rattle.pairs.proofs.Asking.{both_searched}
use Rattle.pairs.proofs.pair.Pair.+search.Goals as goal

pub returns : goal.returns
returns g t c =
    let p = c.args.self.now in
    let a = (g.A.LabelKind.book p.first).meaning in
    both_searched (pair_meaning a (g.B.LabelKind.book p.second).meaning p.values.list p.values.guards) a c.args.path c.in-Some-to_ask.k c.with.result c.with-2.result c.with.ensures c.with-2.ensures c.args.best c.search-found.result c.search.result c.search-found.ensures c.search.ensures

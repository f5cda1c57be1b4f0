use Rattle.pairs.proofs.Branching.{end_searched}
use Rattle.pairs.proofs.pair.Pair.end.Goals as goal

pub returns : goal.returns
returns g c =
    let p = c.args.self.now in
    end_searched (g.A.LabelKind.book p.first).meaning (g.B.LabelKind.book p.second).meaning p.values.list p.values.guards c.args.path c.requires.branch c.requires.asked
    c.seconds-wanted.result.0 c.seconds-barred.result.0 c.seconds-wanted.ensures c.seconds-barred.ensures c.narrow.ensures.second c.args.x c.in-Some.y c.requires.least c.in-Some.ensures
    c.args.best c.lesser.result c.lesser.ensures

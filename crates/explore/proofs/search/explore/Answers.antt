use Rattle.std.proofs.Common.{rules}
use Rattle.explore.proofs.Listed.{listed_at}
use Rattle.explore.proofs.search.explore.Goals as goal

pub returns : goal.returns
returns g c =
    let lent = c.in_ok-all_rounds.ensures.1.lent in
    listed_at (g.S.Stepping.steps c.args.steps.now) g.E.Entry.equal g.met.E.Entry.exact c.all_rounds.new.found _ c.all_rounds.new.firsts c.len.result (search rules) c.len.ensures c.in_ok-all_rounds.ensures.0

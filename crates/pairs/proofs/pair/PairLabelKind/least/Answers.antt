use Rattle.std.proofs.Common.{refl}
use Rattle.pairs.proofs.Asking.{start_branch}
use Rattle.pairs.proofs.pair.PairLabelKind.least.Goals as goal

pub search-requires : goal.search-requires
search-requires g c = start_branch c.args.self.now.values.list _ refl (c.all_given.ensures.0 c.if-not-all_given.false) c.firsts.ensures c.firsts-2.ensures

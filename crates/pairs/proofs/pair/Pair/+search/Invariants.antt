use Rattle.std.proofs.Common.{◌-◌}
use Rattle.pairs.proofs.pair.Pair.+search.Given as goal

abbrev pub decreases-search : goal.decreases-search
decreases-search g l = 32 - l.path.next

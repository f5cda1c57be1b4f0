use Rattle.explore.proofs.Places.{finds_taken}
use Rattle.explore.proofs.numbering.Numbering.find.Goals as goal

pub returns : goal.returns
returns g c = finds_taken c.args.self.now.entries.now c.args.self.now.len c.args.e.now c.find.result c.args.self.now.within c.find.ensures

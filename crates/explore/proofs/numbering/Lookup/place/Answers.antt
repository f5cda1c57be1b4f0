use Rattle.std.proofs.Common.{◌∙◌}
use Rattle.explore.proofs.Places.{place_finds}
use Rattle.explore.proofs.numbering.Lookup.place.Goals as goal

pub returns : goal.returns
returns g c = c.unwrap_or.ensures ∙ place_finds g.E.Entry.equal g.met.E.Entry.exact c.args.self.now.entries.now c.args.e.now c.find.result c.requires.once c.find.ensures

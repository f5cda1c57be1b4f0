use Rattle.std.proofs.Common.{sym, ◌∙◌}
use Rattle.bench.proofs.Lookups.{found_names}
use Rattle.bench.proofs.lookup.atom_of.Goals as goal

pub returns-then-label : goal.returns-then-label
returns-then-label g c =
    let table = c.args.table.now in
    found_names (g.K.LabelKind.book c.args.kind.now).meaning table.atoms table.count c.args.x c.guards_of.result.0 (sym c.label.ensures ∙ c.if-label.true) c.guards_of.ensures c.find.result c.find.ensures

use Rattle.std.proofs.Common.{ℕ, ◌<◌, length, Some, arith, rules, below_more}
use Rattle.bench.specs.Lookups.{Names}
use Rattle.bench.specs.Nodes.{node_at}
use Rattle.bench.specs.Shelves.{automaton}
use Rattle.bench.specs.Testing.{KnownTo}
use Rattle.bench.proofs.Evaluating.{one_evaluated}
use Rattle.bench.proofs.shelf.Shelf.root_state.Goals as goal

pub loop-i-preserved : goal.loop-i-preserved
loop-i-preserved g c =
    let m = (g.K.LabelKind.book c.args.kind.now).meaning in
    let table = c.args.self.now.table.now in
    let nodes = c.args.nodes.now in
    let A = automaton c.args.self.now.bytes.now in
    let inv = c.loop-i.invariant in
    let i : ℕ = c.loop-i.i in
    let atom : ℕ = c.in_ok-atom.atom in
    let named : Names m table.atoms table.count (node_at nodes i).label (Some atom) = rw c.in_ok-atom.ensures.ok_part at c.atom_of.ensures in
    let within : i < length nodes = omega arith in
    record {
      long = search rules;
      known = below_more (KnownTo m table.atoms table.count nodes) i inv.known (atom, named.0, named.1);
      evaluated = rw c.push.ensures.items (
          one_evaluated m table.atoms table.count A c.args.self.now.complete nodes c.loop-i.states.items i atom c.next.result inv.long named.0 named.1 (c.requires.shaped i within).1
          (search rules)
          inv.evaluated);
    }

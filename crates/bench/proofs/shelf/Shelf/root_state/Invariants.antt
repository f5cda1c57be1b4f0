use Rattle.std.proofs.Common.{◌≡◌, ℕ, ◌<◌, length, get_or}
use Rattle.bench.specs.Shelves.{automaton}
use Rattle.bench.specs.Testing.{KnownTo}
use Rattle.bench.proofs.Evaluating.{Evaluated}
use Rattle.bench.proofs.shelf.Shelf.root_state.Given as goal

abbrev pub invariant-loop-i : goal.invariant-loop-i
invariant-loop-i g l =
    let m = (g.K.LabelKind.book l.kind).meaning in
    let table = l.self.table.now in
    record {
      long : length l.states.items ≡ l.i;
      known : (k : ℕ) → k < l.i → KnownTo m table.atoms table.count l.nodes k;
      evaluated : (k : ℕ) → k < l.i → Evaluated m table.atoms table.count (automaton l.self.bytes.now) l.nodes k (get_or l.states.items k 0);
    }

-- No automaton for a language has fewer states than its normal form: the trees of the normal form's states are not
-- congruent, so they have different states in every automaton for the language.
use Rattle.std.proofs.Common.{◌≡◌, ℕ, sym, ◌∙◌, arith}
use Rattle.trees.specs.Trees.{Tree}
use Rattle.trees.specs.Automata.{run}
use Rattle.trees.specs.Theorems.{FewestStates}
use Rattle.trees.proofs.Running.{run_below, same_state}
use Rattle.trees.proofs.Pigeonhole.{at_most}
use Rattle.trees.proofs.Growing.{tree_at}
use Rattle.trees.proofs.Reaching.{reaches}

pub fewest_states : FewestStates
fewest_states σ L A B a b =
    let n = a.numbered in
    let t : ℕ → Tree = tree_at n.first in
    at_most B.size A.size (λ s. run B (t s)) (λ s l. run_below σ B b.complete (t s) (reaches n s l).over) λ i j lt l e.
    let p = reaches n i (omega arith) in
    let q = reaches n j l in
    let same : i ≡ j = sym p.has ∙ a.reduced (t i) (t j) p.over q.over (same_state σ L B b (t i) (t j) p.over q.over e) ∙ q.has in
    omega arith

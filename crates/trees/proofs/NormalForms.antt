-- A language has one normal form.
use Rattle.std.proofs.Common.{◌≡◌, ℕ, ◌<◌, sym, ap, ◌∙◌}
use Rattle.trees.specs.Trees.{Tree, Alphabet, Over, Language}
use Rattle.trees.specs.Automata.{Automaton, run}
use Rattle.trees.specs.Normal.{NormalForm}
use Rattle.trees.specs.Theorems.{OneNormalForm}
use Rattle.trees.proofs.Running.{same_state}
use Rattle.trees.proofs.Growing.{tree_of, tree_at, tree_over, tree_run}
use Rattle.trees.proofs.Reaching.{reaches}
use Rattle.trees.proofs.Numbering.{one_numbering}

-- what one normal form puts together is congruent, so the other puts it together
together : (σ : Alphabet) (L : Language) (A B : Automaton) → NormalForm σ L A → NormalForm σ L B → (t u : Tree) → Over σ t → Over σ u → run A t ≡ run A u → run B t ≡ run B u
together σ L A B a b t u ot ou e = b.reduced t u ot ou (same_state σ L A a.accepts t u ot ou e)

pub one_normal_form : OneNormalForm
one_normal_form σ L A B a b =
    let m = a.numbered in
    let same = one_numbering σ A B a.accepts.complete b.accepts.complete m b.numbered (λ t u ot ou. (together σ L A B a b t u ot ou, together σ L B A b a t u ot ou)) in
    let tree : ℕ → Tree = tree_at m.first in
    let over : (s : ℕ) → s < A.size → Over σ (tree s) = λ s l. (reaches m s l).over in
    let left : (s : ℕ) → s < A.size → run A (tree s) ≡ s = λ s l. (reaches m s l).has in
    let right : (s : ℕ) → s < A.size → run B (tree s) ≡ s = λ s l. sym (same.runs (tree s) (over s l)) ∙ left s l in
    record {
      size = same.size;
      accepts = λ s l.
          sym (ap A.accepts (left s l)) ∙ a.accepts.exact (tree s) (over s l) ∙ sym (b.accepts.exact (tree s) (over s l)) ∙ ap B.accepts (right s l);
      steps = λ c b l.
          sym (tree_run tree A.size A c b left) ∙ same.runs (tree_of tree c) (tree_over tree A.size σ c b l over) ∙ tree_run tree A.size B c b right;
    }

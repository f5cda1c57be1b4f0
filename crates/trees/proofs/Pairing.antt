-- Two automata side by side.
use Rattle.std.proofs.Common.{◌≡◌, ℕ, ◌<◌, ◌≤◌, sym, ap, ◌∙◌, ap₂, ⊎_elim, arith}
use Rattle.std.proofs.lemmas.Bool.{cases_lt}
use Rattle.trees.specs.Trees.{Tree, leaf, one, two, Alphabet, Over}
use Rattle.trees.specs.Automata.{Automaton, Complete, run, accepted}
use Rattle.trees.specs.Rounds.{Combination, nullary, Below, Allowed, step}
use Rattle.trees.specs.Lines.{rename}
use Rattle.trees.specs.Products.{Pairs}
use Rattle.trees.specs.Theorems.{OnePairing, NoSplit, FirstSplitTells}
use Rattle.trees.proofs.Running.{run_below, root, root_below}
use Rattle.trees.proofs.Growing.{tree_at}
use Rattle.trees.proofs.Reaching.{Reaches, reaches, round_height, rounds_rise}
use Rattle.trees.proofs.Numbering.{one_numbering}

-- a map of states that goes with every step takes a tree's state to its state
module _ (σ : Alphabet) (P A : Automaton) (complete : Complete σ P) (f : ℕ → ℕ) (steps : (c : Combination) → Below P.size c → Allowed σ c → f (step P c) ≡ step A (rename f c)) where
  mapped : (t : Tree) → Over σ t → f (run P t) ≡ run A t
  mapped (leaf a) o = steps (nullary a) tt o
  mapped (one a t) o = steps (root P (one a t)) (root_below σ P complete (one a t) o) o.0 ∙ ap (λ p. A.single p a) (mapped t o.1)
  mapped (two a t u) o =
      steps (root P (two a t u)) (root_below σ P complete (two a t u) o) o.0 ∙ ap₂ (λ p q. A.double p q a) (mapped t o.1) (mapped u o.2)

module _ {σ : Alphabet} {A B P : Automaton} (p : Pairs σ A B P) where
  left_run : (t : Tree) → Over σ t → p.left (run P t) ≡ run A t
  left_run = mapped σ P A p.complete p.left p.lefts

  right_run : (t : Tree) → Over σ t → p.right (run P t) ≡ run B t
  right_run = mapped σ P B p.complete p.right p.rights

  -- the tree of a pair
  tree : ℕ → Tree
  tree = tree_at p.numbered.first

  reach : (i : ℕ) → i < P.size → Reaches p.numbered i (tree i)
  unfolding tree
  reach = reaches p.numbered

  left_at : (i : ℕ) → i < P.size → run A (tree i) ≡ p.left i
  left_at i l = let r = reach i l in sym (left_run (tree i) r.over) ∙ ap p.left r.has

  right_at : (i : ℕ) → i < P.size → run B (tree i) ≡ p.right i
  right_at i l = let r = reach i l in sym (right_run (tree i) r.over) ∙ ap p.right r.has

  -- a pair tells whether the two accept a tree alike
  alike : (t : Tree) → Over σ t → A.accepts (p.left (run P t)) ≡ B.accepts (p.right (run P t)) → accepted A t ≡ accepted B t
  alike t o e = sym (ap A.accepts (left_run t o)) ∙ e ∙ ap B.accepts (right_run t o)

  -- and its own tree tells whether it is split
  alike_at : (i : ℕ) → i < P.size → accepted A (tree i) ≡ accepted B (tree i) → A.accepts (p.left i) ≡ B.accepts (p.right i)
  alike_at i l e = sym (ap A.accepts (left_at i l)) ∙ e ∙ ap B.accepts (right_at i l)

-- trees with one pair of states have one pair in any pairing
together : {σ : Alphabet} {A B P Q : Automaton} (p : Pairs σ A B P) (q : Pairs σ A B Q) (t u : Tree) → Over σ t → Over σ u → run P t ≡ run P u → run Q t ≡ run Q u
together {σ} {A} {B} {P} {Q} p q t u ot ou e =
    q.once (run Q t) (run Q u) (run_below σ Q q.complete t ot) (run_below σ Q q.complete u ou)
    (left_run q t ot ∙ sym (left_run p t ot) ∙ ap p.left e ∙ left_run p u ou ∙ sym (left_run q u ou))
    (right_run q t ot ∙ sym (right_run p t ot) ∙ ap p.right e ∙ right_run p u ou ∙ sym (right_run q u ou))

pub one_pairing : OnePairing
one_pairing σ A B P Q p q =
    let same = one_numbering σ P Q p.complete q.complete p.numbered q.numbered (λ t u ot ou. (together p q t u ot ou, together q p t u ot ou)) in
    let has : (i : ℕ) → i < P.size → run Q (tree p i) ≡ i = λ i l. let r = reach p i l in sym (same.runs (tree p i) r.over) ∙ r.has in
    record {
      numbering = same;
      lefts = λ i l. sym (left_at p i l) ∙ sym (left_run q (tree p i) (reach p i l).over) ∙ ap q.left (has i l);
      rights = λ i l. sym (right_at p i l) ∙ sym (right_run q (tree p i) (reach p i l).over) ∙ ap q.right (has i l);
    }

pub no_split : NoSplit
no_split σ A B P p = (
  λ h t o. alike p t o (h (run P t) (run_below σ P p.complete t o)),
  λ h i l. alike_at p i l (h (tree p i) (reach p i l).over),
)

pub first_split : FirstSplitTells
first_split σ A B P p i first =
    let l = first.found in
    let n = p.numbered in
    let r = reach p i l in
    record {
      tree = tree p i;
      over = r.over;
      stands = r.stands;
      high = r.high;
      left = left_at p i l;
      right = right_at p i l;
      one = λ e. first.split (alike_at p i l e);
      shortest = λ t o differ.
          let j = run P t in
          let later : i ≤ j = ⊎_elim (λ lt. absurd (differ (alike p t o (first.before j lt)))) (λ le. le) (cases_lt j i) in
          let rise = rounds_rise n i j later (run_below σ P p.complete t o) in
          let low = round_height p.complete n t o in
          let high = r.high in
          omega arith;
    }

-- The round of a state is the least height of its trees.
use Rattle.std.proofs.Common.{◌≡◌, ℕ, ◌<◌, ◌≤◌, sym, refl, ◌∙◌, ⊎_elim, arith}
use Rattle.std.proofs.lemmas.Bool.{cases_lt}
use Rattle.trees.specs.Trees.{Tree, leaf, one, two, height, Alphabet, Over}
use Rattle.trees.specs.Automata.{Automaton, Complete, run}
use Rattle.trees.specs.Rounds.{round_of, Numbered}
use Rattle.trees.specs.Lines.{Stands}
use Rattle.trees.specs.Theorems.{RoundsAreHeights}
use Rattle.trees.proofs.Running.{run_below, root, root_step, root_allowed, root_below}
use Rattle.trees.proofs.Growing.{tree_at, tree_has, tree_over, tree_run, tree_height, tree_stands}
use Rattle.trees.proofs.Order.{sooner_before, before_round}

module _ {σ : Alphabet} {A : Automaton} (complete : Complete σ A) (n : Numbered σ A) where
  -- a tree's state is found at the latest when the combination at its root is tried
  root_round : (t : Tree) → Over σ t → n.round (run A t) ≤ round_of n.round (root A t)
  root_round t o =
      let c = root A t in
      let s = run A t in
      let within = run_below σ A complete t o in
      let found = n.rounds s within in
      ⊎_elim
      (λ lt. absurd (n.least s c within (root_below σ A complete t o) (root_allowed σ A t o) (root_step A t) (sooner_before n.round c (n.first s) (omega arith))))
      (λ le. le)
      (cases_lt (round_of n.round c) (n.round s))

  pub round_height : (t : Tree) → Over σ t → n.round (run A t) ≤ height t
  round_height (leaf a) o = root_round (leaf a) o
  round_height (one a t) o = omega (arith, root_round (one a t) o, round_height t o.1)
  round_height (two a t u) o = omega (arith, root_round (two a t u) o, round_height t o.1, round_height u o.2)

pub rounds_rise : {σ : Alphabet} {A : Automaton} (n : Numbered σ A) (s t : ℕ) → s ≤ t → t < A.size → n.round s ≤ n.round t
rounds_rise n s t h l =
    ⊎_elim
    (λ lt. omega (arith, before_round n.round (n.first s) (n.first t) (n.rises s t lt l), n.rounds s (omega arith), n.rounds t l))
    (λ le. let same : s ≡ t = omega arith in rw same (omega arith))
    (cases_lt s t)

-- the tree of the first combinations reaches the state in its round
pub record Reaches {σ : Alphabet} {A : Automaton} (n : Numbered σ A) (s : ℕ) (t : Tree) : Type 0 where
  pub over : Over σ t
  pub stands : Stands n.first s t
  pub has : run A t ≡ s
  pub high : height t ≡ n.round s

pub reaches : {σ : Alphabet} {A : Automaton} (n : Numbered σ A) (s : ℕ) → s < A.size → Reaches n s (tree_at n.first s)
reaches {σ} {A} n =
    tree_has n.first A.size (Reaches n) λ s f l h.
    let c = n.first s in
    let b = n.earlier s l in
    record {
      over = tree_over f s σ c b (n.allowed s l) (λ p lt. (h p lt).over);
      stands = tree_stands f s n.first s c refl b (λ p lt. (h p lt).stands);
      has = tree_run f s A c b (λ p lt. (h p lt).has) ∙ n.leads s l;
      high = tree_height f s n.round c b (λ p lt. (h p lt).high) ∙ sym (n.rounds s l);
    }

pub rounds_are_heights : RoundsAreHeights
rounds_are_heights σ A complete n s l =
    let r = reaches n s l in
    record {
      tree = tree_at n.first s;
      over = r.over;
      stands = r.stands;
      has = r.has;
      high = r.high;
      least = λ t o e. rw (← e) (round_height complete n t o);
    }

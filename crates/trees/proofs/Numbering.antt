-- Numbering by rounds is unique.
use Rattle.std.proofs.Common.{◌≡◌, ℕ, zero, suc, ◌<◌, ◌≤◌, sym, refl, ap, ◌∙◌, ⊎_elim, arith, below_none, below_more}
use Rattle.std.proofs.lemmas.Bool.{cases_lt}
use Rattle.trees.specs.Trees.{Tree, Alphabet, Over}
use Rattle.trees.specs.Automata.{Automaton, Complete, run}
use Rattle.trees.specs.Rounds.{Below, step, round_of, Before, Numbered}
use Rattle.trees.specs.Theorems.{OneNumbering}
use Rattle.trees.proofs.Running.{run_below, step_below, below_wider}
use Rattle.trees.proofs.Growing.{tree_of, tree_at, tree_has, tree_over, tree_run}
use Rattle.trees.proofs.Order.{before_neither, before_trans, same_round, same_before}

-- the trees that B puts together, A puts together
abbrev Keeps : Alphabet → Automaton → Automaton → Type 0
Keeps σ A B = (t u : Tree) → Over σ t → Over σ u → run B t ≡ run B u → run A t ≡ run A u

-- both numberings have k states at least, and begin with the same k
record Agree {σ : Alphabet} {A B : Automaton} (m : Numbered σ A) (n : Numbered σ B) (k : ℕ) : Type 0 where
  left : k ≤ A.size
  right : k ≤ B.size
  same : (s : ℕ) → s < k → (m.first s ≡ n.first s) × (m.round s ≡ n.round s)

turned : {σ : Alphabet} {A B : Automaton} (m : Numbered σ A) (n : Numbered σ B) (k : ℕ) → Agree m n k → Agree n m k
turned m n k h =
    record { left = h.right; right = h.left; same = λ s l. (sym (h.same s l).0, sym (h.same s l).1) }

-- the tree has the state in both
record Shared (σ : Alphabet) (A B : Automaton) (s : ℕ) (t : Tree) : Type 0 where
  over : Over σ t
  left : run A t ≡ s
  right : run B t ≡ s

shared : {σ : Alphabet} {A B : Automaton} (m : Numbered σ A) (n : Numbered σ B) (k : ℕ) → Agree m n k → (s : ℕ) → s < k → Shared σ A B s (tree_at m.first s)
shared {σ} {A} {B} m n k agree =
    let within = agree.left in
    let inside = agree.right in
    tree_has m.first k (Shared σ A B) λ s f l h.
    let c = m.first s in
    let b = m.earlier s (omega arith) in
    record {
      over = tree_over f s σ c b (m.allowed s (omega arith)) (λ p lt. (h p lt).over);
      left = tree_run f s A c b (λ p lt. (h p lt).left) ∙ m.leads s (omega arith);
      right = tree_run f s B c b (λ p lt. (h p lt).right) ∙ ap (step B) (agree.same s l).0 ∙ n.leads s (omega arith);
    }

-- Where the first k states agree, the first combination of A's next state leads to none of B's first k: so B has a next state
-- too, and does not try that combination before its own.
module _ (σ : Alphabet) (A B : Automaton) (complete : Complete σ B) (keeps : Keeps σ A B) (m : Numbered σ A) (n : Numbered σ B) (k : ℕ) (agree : Agree m n k) (more : k < A.size) where
  within : Below B.size (m.first k)
  within = below_wider k B.size agree.right (m.first k) (m.earlier k more)

  state_below : step B (m.first k) < B.size
  state_below = step_below σ B complete (m.first k) within (m.allowed k more)

  new : k ≤ step B (m.first k)
  new =
      let c = m.first k in
      let j = step B c in
      let tree = tree_at m.first in
      let b = m.earlier k more in
      let share = shared m n k agree in
      let over = tree_over tree k σ c b (m.allowed k more) (λ p lt. (share p lt).over) in
      let left = tree_run tree k A c b (λ p lt. (share p lt).left) ∙ m.leads k more in
      let right = tree_run tree k B c b (λ p lt. (share p lt).right) in
      ⊎_elim
      (λ lt.
      let known = share j lt in
      let same : k ≡ j = sym left ∙ keeps (tree_of tree c) (tree j) over known.over (right ∙ sym known.right) ∙ known.left in
      absurd (omega arith))
      (λ le. le)
      (cases_lt j k)

  also : k < B.size
  also = omega (arith, new, state_below)

  not_before : Before n.round (m.first k) (n.first k) → ⊥
  not_before h =
      let c = m.first k in
      let j = step B c in
      let l = state_below in
      let later = new in
      ⊎_elim
      (λ lt. n.least j c l within (m.allowed k more) refl (before_trans n.round c (n.first k) (n.first j) h (n.rises k j lt l)))
      (λ le. n.least k c also within (m.allowed k more) (omega arith) h)
      (cases_lt k j)

module _ (σ : Alphabet) (A B : Automaton) (left : Complete σ A) (right : Complete σ B) (to : Keeps σ A B) (back : Keeps σ B A) (m : Numbered σ A) (n : Numbered σ B) where
  -- neither tries the other's first combination of the next state before its own
  next : (k : ℕ) → Agree m n k → k < A.size → k < B.size → (m.first k ≡ n.first k) × (m.round k ≡ n.round k)
  next k agree more fits =
      let again = turned m n k agree in
      let c = m.first k in
      let d = n.first k in
      let b = m.earlier k more in
      let sooner = not_before σ A B right to m n k agree more in
      let later = not_before σ B A left back n m k again fits in
      let same = before_neither n.round c d sooner (λ h. later (same_before k n.round m.round (λ p l. (again.same p l).1) d c (n.earlier k fits) b h)) in
      let tried = same_round k m.round n.round (λ p l. (agree.same p l).1) c b in
      (same, m.rounds k more ∙ tried ∙ ap (round_of n.round) same ∙ sym (n.rounds k fits))

  one_more : (k : ℕ) → Agree m n k → k < A.size → Agree m n (suc k)
  one_more k agree more =
      let fits = also σ A B right to m n k agree more in
      record {
        left = more;
        right = fits;
        same = λ s l. below_more (λ x. (m.first x ≡ n.first x) × (m.round x ≡ n.round x)) k agree.same (next k agree more fits) s (omega arith);
      }

  agreed : (k : ℕ) → k ≤ A.size → Agree m n k
  agreed zero l = record { left = l; right = omega arith; same = below_none _ }
  agreed (suc k) l = one_more k (agreed k (omega arith)) l

pub one_numbering : OneNumbering
one_numbering σ A B left right m n together =
    let to : Keeps σ A B = λ t u ot ou. (together t u ot ou).1 in
    let back : Keeps σ B A = λ t u ot ou. (together t u ot ou).0 in
    let agree = agreed σ A B left right to back m n A.size (omega arith) in
    let again = agreed σ B A right left back to n m B.size (omega arith) in
    let most = agree.right in
    let least = again.right in
    record {
      size = omega arith;
      runs = λ t o.
          let s = run A t in
          let known = shared m n A.size agree s (run_below σ A left t o) in
          sym known.right ∙ sym (back t (tree_at m.first s) o known.over (sym known.left));
      firsts = λ s l. (agree.same s l).0;
      rounds = λ s l. (agree.same s l).1;
    }

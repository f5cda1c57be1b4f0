-- Trees grown from lines: each line's combination over the trees of the lines that it uses.
use Rattle.std.proofs.Common.{◌≡◌, ℕ, zero, suc, ◌<◌, refl, ap, ap₂, arith}
use Rattle.trees.specs.Trees.{Tree, leaf, one, two, height, Alphabet, Over}
use Rattle.trees.specs.Automata.{Automaton, run}
use Rattle.trees.specs.Rounds.{Combination, nullary, unary, binary, step, Allowed, Below, round_of}
use Rattle.trees.specs.Lines.{Stands}

-- a combination's tree, from trees for its states
abbrev pub tree_of : (ℕ → Tree) → Combination → Tree
tree_of f (nullary a) = leaf a
tree_of f (unary p a) = one a (f p)
tree_of f (binary p q a) = two a (f p) (f q)

abbrev grow : (ℕ → Combination) → ℕ → ℕ → Tree
grow lines zero s = leaf 0
grow lines (suc k) s = tree_of (grow lines k) (lines s)

abbrev pub tree_at : (ℕ → Combination) → ℕ → Tree
tree_at lines s = grow lines (suc s) s

-- What holds of a line's tree whenever it holds of the trees of the lines before, holds of each.
module _ (lines : ℕ → Combination) (n : ℕ) (P : ℕ → Tree → Type 0) (more : (s : ℕ) (f : ℕ → Tree) → s < n → ((p : ℕ) → p < s → P p (f p)) → P s (tree_of f (lines s))) where
  grown : (k s : ℕ) → s < k → s < n → P s (grow lines k s)
  grown zero s h l = absurd (omega arith)
  grown (suc k) s h l = more s (grow lines k) l (λ p lt. grown k p (omega arith) (omega arith))

  pub tree_has : (s : ℕ) → s < n → P s (tree_at lines s)
  tree_has s l = grown (suc s) s (omega arith) l

-- ---- what a combination's tree has from the trees for its states, which lie below s

module _ (f : ℕ → Tree) (s : ℕ) where
  pub tree_over : (σ : Alphabet) (c : Combination) → Below s c → Allowed σ c → ((p : ℕ) → p < s → Over σ (f p)) → Over σ (tree_of f c)
  tree_over σ (nullary a) b l h = l
  tree_over σ (unary p a) b l h = (l, h p b)
  tree_over σ (binary p q a) b l h = (l, h p b.0, h q b.1)

  pub tree_run : (A : Automaton) (c : Combination) → Below s c → ((p : ℕ) → p < s → run A (f p) ≡ p) → run A (tree_of f c) ≡ step A c
  tree_run A (nullary a) b h = refl
  tree_run A (unary p a) b h = ap (λ x. A.single x a) (h p b)
  tree_run A (binary p q a) b h = ap₂ (λ x y. A.double x y a) (h p b.0) (h q b.1)

  pub tree_height : (r : ℕ → ℕ) (c : Combination) → Below s c → ((p : ℕ) → p < s → height (f p) ≡ r p) → height (tree_of f c) ≡ round_of r c
  tree_height r (nullary a) b h = refl
  tree_height r (unary p a) b h = omega (arith, h p b)
  tree_height r (binary p q a) b h = omega (arith, h p b.0, h q b.1)

  pub tree_stands : (lines : ℕ → Combination) (k : ℕ) (c : Combination) → lines k ≡ c → Below s c → ((p : ℕ) → p < s → Stands lines p (f p)) → Stands lines k (tree_of f c)
  tree_stands lines k (nullary a) e b h = e
  tree_stands lines k (unary p a) e b h = (p, e, h p b)
  tree_stands lines k (binary p q a) e b h = (p, q, e, h p b.0, h q b.1)

-- Automata that go by atoms: each label has one atom, and all labels of an atom lead to the same states.
use Rattle.std.specs.Prelude.{◌≡◌, ℕ, ◌<◌, ◌≤◌, true}
use Rattle.trees.specs.Trees.{Tree, leaf, one, two, Alphabet, Over, Language}
use Rattle.trees.specs.Automata.{Automaton}

-- σ is the alphabet of labels, and τ that of atoms; the label of an atom is its least, and atoms rise with their labels
pub record Atoms (σ τ : Alphabet) (atom label : ℕ → ℕ) : Type 0 where
  pub to : (k x : ℕ) → σ k x ≡ true → τ k (atom x) ≡ true
  pub back : (k a : ℕ) → τ k a ≡ true → σ k (label a) ≡ true
  pub own : (k a : ℕ) → τ k a ≡ true → atom (label a) ≡ a
  pub least : (k x : ℕ) → σ k x ≡ true → label (atom x) ≤ x
  pub rises : (k a b : ℕ) → τ k a ≡ true → τ k b ≡ true → a < b → label a < label b

abbrev pub relabel : (ℕ → ℕ) → Tree → Tree
relabel f (leaf a) = leaf (f a)
relabel f (one a t) = one (f a) (relabel f t)
relabel f (two a t u) = two (f a) (relabel f t) (relabel f u)

-- the automaton over labels that goes by their atoms
abbrev pub by_atoms : (ℕ → ℕ) → Automaton → Automaton
by_atoms atom A = record { size = A.size; none = λ x. A.none (atom x); single = λ p x. A.single p (atom x); double = λ p q x. A.double p q (atom x); accepts = A.accepts }

-- M has the trees over labels whose atoms make a tree of L
abbrev pub Corresponds : Alphabet → (ℕ → ℕ) → Language → Language → Type 0
Corresponds σ atom L M = (t : Tree) → Over σ t → M t ≡ L (relabel atom t)

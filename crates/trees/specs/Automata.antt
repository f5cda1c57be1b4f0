-- Deterministic bottom-up tree automata.
use Rattle.std.specs.Prelude.{◌≡◌, ℕ, ◌<◌, Bool, true}
use Rattle.trees.specs.Trees.{Tree, leaf, one, two, Alphabet, Over, Language}

-- States are the numbers below size. A label, with the states of the children, gives a node its state.
pub record Automaton : Type 0 where
  pub size : ℕ
  pub none : ℕ → ℕ
  -- state of the child, label
  pub single : ℕ → ℕ → ℕ
  -- states of the left and the right child, label
  pub double : ℕ → ℕ → ℕ → ℕ
  pub accepts : ℕ → Bool

-- the automaton is complete: over the alphabet every node gets a state
pub record Complete (σ : Alphabet) (A : Automaton) : Type 0 where
  pub none : (a : ℕ) → σ 0 a ≡ true → A.none a < A.size
  pub single : (p a : ℕ) → p < A.size → σ 1 a ≡ true → A.single p a < A.size
  pub double : (p q a : ℕ) → p < A.size → q < A.size → σ 2 a ≡ true → A.double p q a < A.size

-- the state of the root
abbrev pub run : Automaton → Tree → ℕ
run A (leaf a) = A.none a
run A (one a t) = A.single (run A t) a
run A (two a t u) = A.double (run A t) (run A u) a

abbrev pub accepted : Automaton → Language
accepted A t = A.accepts (run A t)

-- a complete deterministic automaton for the language: it accepts exactly the trees that belong to it
pub record For (σ : Alphabet) (L : Language) (A : Automaton) : Type 0 where
  pub complete : Complete σ A
  pub exact : (t : Tree) → Over σ t → accepted A t ≡ L t

-- every state is the state of some tree
abbrev pub Reachable : Alphabet → Automaton → Type 0
Reachable σ A = (s : ℕ) → s < A.size → (t : Tree) × Over σ t × (run A t ≡ s)

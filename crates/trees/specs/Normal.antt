-- The normal form of a language.
use Rattle.std.specs.Prelude.{◌≡◌, ℕ, ◌<◌}
use Rattle.trees.specs.Trees.{Tree, Alphabet, Over, Language, Congruent}
use Rattle.trees.specs.Automata.{Automaton, For, run}
use Rattle.trees.specs.Rounds.{Combination, Below, Allowed, step, Numbered}

-- an automaton for the language with one state for each class of congruent trees, numbered by rounds
pub record NormalForm (σ : Alphabet) (L : Language) (A : Automaton) : Type 0 where
  pub accepts : For σ L A
  pub reduced : (t u : Tree) → Over σ t → Over σ u → Congruent σ L t u → run A t ≡ run A u
  pub numbered : Numbered σ A

-- the same number of states, the same ones accept, and every used entry is the same
pub record Same (σ : Alphabet) (A B : Automaton) : Type 0 where
  pub size : A.size ≡ B.size
  pub accepts : (s : ℕ) → s < A.size → A.accepts s ≡ B.accepts s
  pub steps : (c : Combination) → Below A.size c → Allowed σ c → step A c ≡ step B c

-- n trees, no two of them congruent
pub record Apart (σ : Alphabet) (L : Language) (n : ℕ) : Type 0 where
  pub at : ℕ → Tree
  pub over : (k : ℕ) → k < n → Over σ (at k)
  pub apart : (i j : ℕ) → i < j → j < n → Congruent σ L (at i) (at j) → ⊥

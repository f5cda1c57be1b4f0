-- Two automata side by side.
use Rattle.std.specs.Prelude.{◌≡◌, ℕ, ◌<◌}
use Rattle.trees.specs.Trees.{Alphabet}
use Rattle.trees.specs.Automata.{Automaton, Complete}
use Rattle.trees.specs.Rounds.{Combination, Below, Allowed, step, Numbered}
use Rattle.trees.specs.Lines.{rename}

-- The states of P stand for pairs of a state of A and a state of B, each pair once, numbered by rounds.
pub record Pairs (σ : Alphabet) (A B P : Automaton) : Type 0 where
  pub left : ℕ → ℕ
  pub right : ℕ → ℕ
  pub complete : Complete σ P
  pub numbered : Numbered σ P
  pub lefts : (c : Combination) → Below P.size c → Allowed σ c → left (step P c) ≡ step A (rename left c)
  pub rights : (c : Combination) → Below P.size c → Allowed σ c → right (step P c) ≡ step B (rename right c)
  pub once : (i j : ℕ) → i < P.size → j < P.size → left i ≡ left j → right i ≡ right j → i ≡ j

-- exactly one of the pair's states accepts
abbrev pub Split : (A B : Automaton) → ℕ → ℕ → Type 0
Split A B p q = A.accepts p ≡ B.accepts q → ⊥

-- the first split pair
pub record FirstSplit {σ : Alphabet} {A B P : Automaton} (pairs : Pairs σ A B P) (i : ℕ) : Type 0 where
  pub found : i < P.size
  pub split : Split A B (pairs.left i) (pairs.right i)
  pub before : (j : ℕ) → j < i → A.accepts (pairs.left j) ≡ B.accepts (pairs.right j)

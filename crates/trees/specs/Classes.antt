-- States of an automaton put into classes.
use Rattle.std.specs.Prelude.{◌≡◌, ℕ, ◌<◌, true, ◌⊎◌, ◌≢◌}
use Rattle.trees.specs.Trees.{Alphabet}
use Rattle.trees.specs.Automata.{Automaton}

-- Two states are told apart by which of them accepts, or by a step that leads to two states that are told apart.
pub data ToldApart (σ : Alphabet) (A : Automaton) : ℕ → ℕ → Type 0 where
  by_accepts : (p q : ℕ) → (A.accepts p ≢ A.accepts q) → ToldApart σ A p q
  by_single : (p q a : ℕ) → σ 1 a ≡ true → ToldApart σ A (A.single p a) (A.single q a) → ToldApart σ A p q
  by_left : (p q y a : ℕ) → y < A.size → σ 2 a ≡ true → ToldApart σ A (A.double p y a) (A.double q y a) → ToldApart σ A p q
  by_right : (p q y a : ℕ) → y < A.size → σ 2 a ≡ true → ToldApart σ A (A.double y p a) (A.double y q a) → ToldApart σ A p q

-- states of different classes are told apart
abbrev pub Separate : Alphabet → Automaton → (ℕ → ℕ) → Type 0
Separate σ A class = (p q : ℕ) → p < A.size → q < A.size → (class p ≢ class q) → ToldApart σ A p q

-- what the classes say tells p and q apart: acceptance, or one step into different classes
pub data Tells (σ : Alphabet) (A : Automaton) (class : ℕ → ℕ) (p q : ℕ) : Type 0 where
  accept : (A.accepts p ≢ A.accepts q) → Tells σ A class p q
  single : (a : ℕ) → σ 1 a ≡ true → (class (A.single p a) ≢ class (A.single q a)) → Tells σ A class p q
  left : (y a : ℕ) → y < A.size → σ 2 a ≡ true → (class (A.double p y a) ≢ class (A.double q y a)) → Tells σ A class p q
  right : (y a : ℕ) → y < A.size → σ 2 a ≡ true → (class (A.double y p a) ≢ class (A.double y q a)) → Tells σ A class p q

-- the finer classes part two states of one class only where the classes tell them apart
abbrev pub Refines : Alphabet → Automaton → (ℕ → ℕ) → (ℕ → ℕ) → Type 0
Refines σ A class finer = (p q : ℕ) → p < A.size → q < A.size → (finer p ≢ finer q) → (class p ≢ class q) ⊎ Tells σ A class p q

-- nothing tells two states of one class apart
abbrev pub Stable : Alphabet → Automaton → (ℕ → ℕ) → Type 0
Stable σ A class = (p q : ℕ) → p < A.size → q < A.size → class p ≡ class q → Tells σ A class p q → ⊥

-- B has the classes as its states, and steps as a representative of each class does
pub record Quotient (σ : Alphabet) (A : Automaton) (class : ℕ → ℕ) (B : Automaton) : Type 0 where
  pub of : ℕ → ℕ
  pub within : (i : ℕ) → i < B.size → of i < A.size
  pub own : (i : ℕ) → i < B.size → class (of i) ≡ i
  pub below : (p : ℕ) → p < A.size → class p < B.size
  pub accepts : (i : ℕ) → i < B.size → B.accepts i ≡ A.accepts (of i)
  pub none : (a : ℕ) → σ 0 a ≡ true → B.none a ≡ class (A.none a)
  pub single : (i a : ℕ) → i < B.size → σ 1 a ≡ true → B.single i a ≡ class (A.single (of i) a)
  pub double : (i j a : ℕ) → i < B.size → j < B.size → σ 2 a ≡ true → B.double i j a ≡ class (A.double (of i) (of j) a)

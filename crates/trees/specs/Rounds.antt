-- States numbered by rounds.
--
-- Round 1 tries the childless nodes by rising label. Each later round uses the states known when it starts: first with one
-- child, by state and label; then with two, by left state, right state and label. A state not met before gets the next number.
-- What follows says that without a loop: a combination is first tried one round after the latest of its states was found, so
-- the whole order of trying is that of (round, number of children, left, right, label).
use Rattle.std.specs.Prelude.{◌≡◌, ℕ, ◌+◌, ◌<◌, max, true, ◌⊎◌, List, [], ◌∷◌}
use Rattle.trees.specs.Trees.{Alphabet}
use Rattle.trees.specs.Automata.{Automaton}

-- a label over no, one or two states
pub data Combination : Type 0 where
  nullary : ℕ → Combination
  unary : ℕ → ℕ → Combination
  binary : ℕ → ℕ → ℕ → Combination

-- the state it leads to
abbrev pub step : Automaton → Combination → ℕ
step A (nullary a) = A.none a
step A (unary p a) = A.single p a
step A (binary p q a) = A.double p q a

-- its label may stand on a node with so many children
abbrev pub Allowed : Alphabet → Combination → Type 0
Allowed σ (nullary a) = σ 0 a ≡ true
Allowed σ (unary p a) = σ 1 a ≡ true
Allowed σ (binary p q a) = σ 2 a ≡ true

-- its states lie below n
abbrev pub Below : ℕ → Combination → Type 0
Below n (nullary a) = Unit {0}
Below n (unary p a) = p < n
Below n (binary p q a) = (p < n) × (q < n)

-- with the rounds in which its states were found: the round that tries it first
abbrev pub round_of : (ℕ → ℕ) → Combination → ℕ
round_of r (nullary a) = 1
round_of r (unary p a) = r p + 1
round_of r (binary p q a) = max (r p) (r q) + 1

abbrev pub key : (ℕ → ℕ) → Combination → List ℕ
key r (nullary a) = 1 ∷ 0 ∷ 0 ∷ 0 ∷ a ∷ []
key r (unary p a) = (r p + 1) ∷ 1 ∷ p ∷ 0 ∷ a ∷ []
key r (binary p q a) = (max (r p) (r q) + 1) ∷ 2 ∷ p ∷ q ∷ a ∷ []

-- the lexicographic order
abbrev pub Less : List ℕ → List ℕ → Type 0
Less [] ys = ⊥
Less (x ∷ xs) [] = ⊥
Less (x ∷ xs) (y ∷ ys) = (x < y) ⊎ ((x ≡ y) × Less xs ys)

-- c is tried before d
abbrev pub Before : (ℕ → ℕ) → Combination → Combination → Type 0
Before r c d = Less (key r c) (key r d)

-- Each state has a first combination, which is of earlier states; these follow one another in the order of trying; and no
-- combination that leads to a state is tried before its first.
pub record Numbered (σ : Alphabet) (A : Automaton) : Type 0 where
  pub first : ℕ → Combination
  -- the round that finds a state
  pub round : ℕ → ℕ
  pub leads : (s : ℕ) → s < A.size → step A (first s) ≡ s
  pub allowed : (s : ℕ) → s < A.size → Allowed σ (first s)
  pub earlier : (s : ℕ) → s < A.size → Below s (first s)
  pub rounds : (s : ℕ) → s < A.size → round s ≡ round_of round (first s)
  pub rises : (s t : ℕ) → s < t → t < A.size → Before round (first s) (first t)
  pub least : (s : ℕ) (c : Combination) → s < A.size → Below A.size c → Allowed σ c → step A c ≡ s → Before round c (first s) → ⊥

-- Things numbered by rounds: how far the search has come, and what it has found at the end.
use Rattle.std.specs.Prelude.{◌≡◌, ℕ, ◌+◌, ◌*◌, ◌<◌, ◌≤◌, List, [], ◌∷◌, length, ◌≢◌, slice_index_or}
use Rattle.trees.specs.Automata.{Automaton, Complete}
use Rattle.trees.specs.Rounds.{Combination, step, Allowed, Below, round_of, key, Less, Before, Numbered}
use Rattle.explore.specs.Steps.{Steps, apply, letters}
use Rattle.explore.specs.Firsts.{first_at}

-- The first n things have been found, and every combination whose key comes before the position has been tried.
pub record Underway {E : Type 0} (S : Steps E) (entry : ℕ → E) (first : ℕ → Combination) (n : ℕ) (round : ℕ → ℕ) (position : List ℕ) : Type 0 where
  pub allowed : (k : ℕ) → k < n → Allowed (letters S.atoms) (first k)
  pub earlier : (k : ℕ) → k < n → Below k (first k)
  pub made : (k : ℕ) → k < n → entry k ≡ apply S entry (first k)
  pub rounds : (k : ℕ) → k < n → round k ≡ round_of round (first k)
  pub rises : (i j : ℕ) → i < j → j < n → Before round (first i) (first j)
  pub once : (i j : ℕ) → i < j → j < n → entry i ≢ entry j
  pub reached : (k : ℕ) → k < n → Less (key round (first k)) position
  pub covered : (c : Combination) → Below n c → Allowed (letters S.atoms) c → Less (key round c) position → (k : ℕ) × (k < n) × (entry k ≡ apply S entry c) × (Before round c (first k) → ⊥)

-- Within a round: things below old were found before the last round, those below start in it, the others in this one.
-- The next combination to try has so many children, the states p and q, and the label a.
pub record InRound {E : Type 0} (S : Steps E) (entry : ℕ → E) (first : ℕ → Combination) (n old start : ℕ) (children p q a : ℕ) : Type 0 where
  pub round : ℕ → ℕ
  pub this : ℕ
  pub way : Underway S entry first n round (this ∷ children ∷ p ∷ q ∷ a ∷ [])
  pub begun : 1 ≤ this
  -- childless nodes are tried in the first round alone
  pub leaves : children ≡ 0 → this ≡ 1
  pub ordered : (old ≤ start) × (start ≤ n)
  pub before : (k : ℕ) → k < old → round k + 1 < this
  pub last : (k : ℕ) → old ≤ k → k < start → round k + 1 ≡ this
  pub now : (k : ℕ) → start ≤ k → k < n → round k ≡ this

-- All things that there are: the automaton of their numbers is complete, and numbered by rounds.
pub record Found {E : Type 0} (S : Steps E) (entry : ℕ → E) (first : ℕ → Combination) (n : ℕ) : Type 0 where
  pub numbers : Automaton
  pub size : numbers.size ≡ n
  pub complete : Complete (letters S.atoms) numbers
  pub numbered : Numbered (letters S.atoms) numbers
  pub firsts : (k : ℕ) → k < n → numbered.first k ≡ first k
  pub steps : (c : Combination) → Below n c → Allowed (letters S.atoms) c → entry (step numbers c) ≡ apply S entry c
  pub once : (i j : ℕ) → i < j → j < n → entry i ≢ entry j

-- There are more than n things: n + 1 different ones, each of which earlier ones lead to.
pub record MoreThan {E : Type 0} (n : ℕ) (S : Steps E) : Type 0 where
  pub entry : ℕ → E
  pub first : ℕ → Combination
  pub allowed : (k : ℕ) → k ≤ n → Allowed (letters S.atoms) (first k)
  pub earlier : (k : ℕ) → k ≤ n → Below k (first k)
  pub made : (k : ℕ) → k ≤ n → entry k ≡ apply S entry (first k)
  pub once : (i j : ℕ) → i < j → j ≤ n → entry i ≢ entry j

-- ---- as the code holds it: things in a list, and their first combinations in cells

abbrev pub entry_at : {E : Type 0} → Steps E → List E → ℕ → E
entry_at S es k = slice_index_or es k (S.none 0)

-- the combination c is kept for number n
pub record Remembers (cells : List ℕ) (n : ℕ) (c : Combination) (after : List ℕ) : Type 0 where
  pub long : length after ≡ length cells
  pub kept : (k : ℕ) → k < n → first_at after k ≡ first_at cells k
  pub here : first_at after n ≡ c

-- there are cells for every place, and numbers that are no mark of an absent child
pub record Room {E : Type 0} (es : List E) (cells : List ℕ) : Type 0 where
  pub long : 3 * length es ≤ length cells
  pub small : length es < 65536

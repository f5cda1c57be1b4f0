-- Trees given as lines. A line is a label over no, one or two lines; a line that is used twice stands for two copies.
use Rattle.std.specs.Prelude.{◌≡◌, ℕ, zero, suc, ◌+◌, ◌<◌, Bool, true, cond, ◌⊎◌, ◌↔◌}
use Rattle.trees.specs.Trees.{Tree, leaf, one, two}
use Rattle.trees.specs.Rounds.{Combination, nullary, unary, binary, Below}

-- line k stands for the tree
abbrev pub Stands : (ℕ → Combination) → ℕ → Tree → Type 0
Stands lines k (leaf a) = lines k ≡ nullary a
Stands lines k (one a t) = (p : ℕ) × (lines k ≡ unary p a) × Stands lines p t
Stands lines k (two a t u) = (p : ℕ) × (q : ℕ) × (lines k ≡ binary p q a) × Stands lines p t × Stands lines q u

-- the first n lines use only lines before them
abbrev pub Ordered : ℕ → (ℕ → Combination) → Type 0
Ordered n lines = (k : ℕ) → k < n → Below k (lines k)

abbrev pub Uses : Combination → ℕ → Type 0
Uses (nullary a) k = ⊥
Uses (unary p a) k = k ≡ p
Uses (binary p q a) k = (k ≡ p) ⊎ (k ≡ q)

-- the lines that a line leads back to, itself included
pub data LeadsBack (lines : ℕ → Combination) (root : ℕ) : ℕ → Type 0 where
  itself : LeadsBack lines root root
  used : (j k : ℕ) → LeadsBack lines root j → Uses (lines j) k → LeadsBack lines root k

-- the same combination over other states or lines
abbrev pub rename : (ℕ → ℕ) → Combination → Combination
rename f (nullary a) = nullary a
rename f (unary p a) = unary (f p) a
rename f (binary p q a) = binary (f p) (f q) a

-- how many of the numbers below k are kept
abbrev pub rank : (ℕ → Bool) → ℕ → ℕ
rank kept zero = 0
rank kept (suc k) = cond (kept k) (rank kept k + 1) (rank kept k)

-- the lines that the root leads back to, numbered anew in their order
pub record Renumbered (lines : ℕ → Combination) (root : ℕ) (kept : ℕ → Bool) (anew : ℕ → Combination) : Type 0 where
  pub keeps : (k : ℕ) → (kept k ≡ true) ↔ LeadsBack lines root k
  pub line : (k : ℕ) → kept k ≡ true → anew (rank kept k) ≡ rename (rank kept) (lines k)

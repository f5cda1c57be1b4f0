-- Things that a label and the things of the children lead to: sets of states, pairs of states, classes.
use Rattle.std.specs.Prelude.{◌≡◌, ℕ, ◌<◌, ◌≤◌, Bool, true}
use Rattle.trees.specs.Trees.{Tree, leaf, one, two}
pub use Rattle.trees.specs.Trees.{letters}
use Rattle.trees.specs.Rounds.{Combination, nullary, unary, binary}

pub record Steps (E : Type 0) : Type 0 where
  -- labels are the numbers below this one
  pub atoms : ℕ
  pub none : ℕ → E
  pub single : E → ℕ → E
  pub double : E → E → ℕ → E
  pub accepts : E → Bool
  -- the things that may be asked about
  pub fine : E → Bool

-- steps lead from things that may be asked about to such things
pub record Fit {E : Type 0} (S : Steps E) : Type 0 where
  pub few : S.atoms ≤ 16
  pub none : (a : ℕ) → a < S.atoms → S.fine (S.none a) ≡ true
  pub single : (p : E) (a : ℕ) → S.fine p ≡ true → a < S.atoms → S.fine (S.single p a) ≡ true
  pub double : (p q : E) (a : ℕ) → S.fine p ≡ true → S.fine q ≡ true → a < S.atoms → S.fine (S.double p q a) ≡ true

-- what a combination of numbered things leads to
abbrev pub apply : {E : Type 0} → Steps E → (ℕ → E) → Combination → E
apply S entry (nullary a) = S.none a
apply S entry (unary p a) = S.single (entry p) a
apply S entry (binary p q a) = S.double (entry p) (entry q) a

-- the thing of a tree
abbrev pub thing : {E : Type 0} → Steps E → Tree → E
thing S (leaf a) = S.none a
thing S (one a t) = S.single (thing S t) a
thing S (two a t u) = S.double (thing S t) (thing S u) a

-- States put into classes, and one class parted.
use Rattle.std.specs.Prelude.{◌≡◌, ℕ, ◌<◌, ◌≤◌, List, length, ◌≢◌}
use Rattle.trees.specs.Automata.{Automaton}
use Rattle.minimize.specs.Tests.{at, answer_of}
use Rattle.minimize.specs.declared.test.Test.{Test}

-- each state has a class below count, and each class a representative, which is one of its states
pub record Partition (A : Automaton) (classes reps : List ℕ) (count : ℕ) : Type 0 where
  pub states : length classes ≡ A.size
  pub places : length reps ≡ 32
  pub some : 1 ≤ count
  pub few : count ≤ 32
  pub below : (p : ℕ) → p < A.size → at classes p < count
  pub within : (i : ℕ) → i < count → at reps i < A.size
  pub own : (i : ℕ) → i < count → at classes (at reps i) ≡ i

-- the class c of p when the class of r is parted: what answers the test otherwise than r goes to the class new
pub record Moved (A : Automaton) (classes : List ℕ) (t : Test) (r new p c : ℕ) : Type 0 where
  pub goes : at classes p ≡ at classes r → (answer_of A classes t p ≢ answer_of A classes t r) → c ≡ new
  pub stays : answer_of A classes t p ≡ answer_of A classes t r → c ≡ at classes p
  pub other : (at classes p ≢ at classes r) → c ≡ at classes p

abbrev pub Parted : Automaton → List ℕ → Test → ℕ → ℕ → List ℕ → Type 0
Parted A classes t r new finer = (p : ℕ) → p < A.size → Moved A classes t r new p (at finer p)

-- Tests of states, and what they say of states in one class.
use Rattle.std.specs.Prelude.{◌≡◌, ℕ, ◌<◌, cond, List, slice_index}
use Rattle.trees.specs.Automata.{Automaton}
use Rattle.minimize.specs.declared.test.Test.{Test}
use Rattle.minimize.specs.declared.test.Test.TheVariants.{Accepts, Single, Left, Right}
use Rattle.minimize.specs.declared.test.Found.{Found}

-- the number at a place: the class of a state, or the representative of a class
abbrev pub at : List ℕ → ℕ → ℕ
at xs k = slice_index xs k

-- what a test says of the state p: whether it accepts, or the class of a step from it
abbrev pub answer_of : Automaton → List ℕ → Test → ℕ → ℕ
answer_of A classes Accepts p = cond (A.accepts p) 1 0
answer_of A classes (Single a) p = at classes (A.single p a)
answer_of A classes (Left y a) p = at classes (A.double p y a)
answer_of A classes (Right y a) p = at classes (A.double y p a)

-- the test is of an atom below n, beside a state of the automaton
abbrev pub Valid : ℕ → Automaton → Test → Type 0
Valid n A Accepts = Unit {0}
Valid n A (Single a) = a < n
Valid n A (Left y a) = (y < A.size) × (a < n)
Valid n A (Right y a) = (y < A.size) × (a < n)

-- p answers the test as the representative of its class does
abbrev pub Alike : Automaton → List ℕ → List ℕ → Test → ℕ → Type 0
Alike A classes reps t p = answer_of A classes t p ≡ answer_of A classes t (at reps (at classes p))

-- a state that answers a test otherwise than the representative of its class
pub record Splits (n : ℕ) (A : Automaton) (classes reps : List ℕ) (f : Found) : Type 0 where
  pub state : f.state < A.size
  pub valid : Valid n A f.test
  pub differs : Alike A classes reps f.test f.state → ⊥

-- Classes of states, numbered by rounds.
use Rattle.std.specs.Prelude.{ℕ, ◌≤◌, Bool, List, length, take, Ok, Err, Result, ◌==◌}
use Rattle.trees.specs.Automata.{Automaton, For, Reachable}
use Rattle.trees.specs.Normal.{NormalForm}
use Rattle.trees.specs.Trees.{Language, letters}
use Rattle.explore.specs.Firsts.{first_at}
use Rattle.explore.specs.Listing.{Listed, numbers_of}
use Rattle.minimize.specs.Minimized.{Minimal, ApartStates}
use Rattle.minimize.specs.declared.fault.TooManyClasses.{TooManyClasses}
use Rattle.normal.specs.Classes.{class_steps}
use Rattle.normal.specs.declared.class.Class.{Class}
use Rattle.normal.specs.declared.order.Ordered.{Ordered}

abbrev pub same_class : Class → Class → Bool
same_class x y = x.0 == y.0

-- the automaton of the first classes of the order
abbrev pub quotient_of : ℕ → Automaton → List ℕ → List ℕ → List Class → Ordered → Automaton
quotient_of n A classes reps order o = numbers_of (class_steps n A classes reps o.count) same_class (take o.size order)

-- the classes in the order of rounds, which make the normal form of every language that the automaton is for
pub record Orderly (n : ℕ) (A : Automaton) (classes reps : List ℕ) (order : List Class) (cells : List ℕ) (o : Ordered) : Type 0 where
  pub classed : Minimal n A classes reps o.count
  pub few : o.size ≤ length order
  pub listed : Listed (class_steps n A classes reps o.count) same_class (take o.size order) (first_at cells)
  pub normal : (L : Language) → For (letters n) L A → Reachable (letters n) A → NormalForm (letters n) L (quotient_of n A classes reps order o)

-- or 33 states each two of which are told apart
abbrev pub Orders : ℕ → Automaton → Result Ordered TooManyClasses → List ℕ → List ℕ → List Class → List ℕ → Type 0
Orders n A (Ok o) classes reps order cells = Orderly n A classes reps order cells o
Orders n A (Err fault) classes reps order cells = ApartStates (letters n) A 33

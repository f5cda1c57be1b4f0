-- What minimizing gives.
use Rattle.std.specs.Prelude.{ℕ, ◌<◌, List, Ok, Err, Result}
use Rattle.trees.specs.Trees.{Alphabet}
use Rattle.trees.specs.Automata.{Automaton}
use Rattle.trees.specs.Classes.{ToldApart, Separate, Stable}
use Rattle.minimize.specs.Automata.{atoms_below}
use Rattle.minimize.specs.Partitions.{Partition}
use Rattle.minimize.specs.Tests.{at}
use Rattle.minimize.specs.declared.fault.TooManyClasses.{TooManyClasses}

-- the classes of states that nothing tells apart
pub record Minimal (n : ℕ) (A : Automaton) (classes reps : List ℕ) (count : ℕ) : Type 0 where
  pub partition : Partition A classes reps count
  pub separate : Separate (atoms_below n) A (at classes)
  pub stable : Stable (atoms_below n) A (at classes)

-- so many states, each two of them told apart
pub record ApartStates (σ : Alphabet) (A : Automaton) (many : ℕ) : Type 0 where
  pub state : ℕ → ℕ
  pub within : (k : ℕ) → k < many → state k < A.size
  pub apart : (i j : ℕ) → i < j → j < many → ToldApart σ A (state i) (state j)

-- at most 32 classes, or the refusal where there are more
abbrev pub Minimized : ℕ → Automaton → Result ℕ TooManyClasses → List ℕ → List ℕ → Type 0
Minimized n A (Ok count) classes reps = Minimal n A classes reps count
Minimized n A (Err fault) classes reps = ApartStates (atoms_below n) A 33

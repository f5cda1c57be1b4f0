-- The classes that one left child leads to.
use Rattle.std.specs.Prelude.{◌≡◌, ℕ, ◌<◌, List, [], slice_index_or}
use Rattle.minimize.specs.Looks.{atom_count, automaton, class_of, rep_of}
use Rattle.minimize.specs.Tests.{at}
use Rattle.minimize.specs.declared.automaton.TreeAutomaton.{Ghosts}
use Rattle.minimize.specs.declared.partitioned.Partitioned.{Partitioned}

module _ {M R : Type 0} {g : Ghosts M R} (s : Partitioned M R g) where
  -- the class that x on the left, q on the right and an atom lead to
  abbrev pub beside : ℕ → ℕ → ℕ → ℕ
  beside x q a = class_of s ((automaton s).double x q a)

  -- the row has these classes for the atoms below n
  abbrev pub RowOf : ℕ → ℕ → ℕ → List ℕ → Type 0
  RowOf n x q row = (a : ℕ) → a < n → at row a ≡ beside x q a

  -- the table has such rows for the first of the representatives
  abbrev pub TableOf : ℕ → ℕ → List (List ℕ) → Type 0
  TableOf count x table = (i : ℕ) → i < count → RowOf (atom_count s) x (rep_of s i) (slice_index_or table i [])

-- Automata whose labels are atoms.
use Rattle.std.specs.Prelude.{ℕ, ◌≤◌, nat_lt}
use Rattle.trees.specs.Trees.{Alphabet}
use Rattle.trees.specs.Automata.{Automaton, Complete}

-- the atoms below n, on every node
abbrev pub atoms_below : ℕ → Alphabet
atoms_below n k a = nat_lt a n

-- n atoms, and few enough states
pub record Fit (n : ℕ) (A : Automaton) : Type 0 where
  pub some : 1 ≤ A.size
  pub few : A.size ≤ 1024
  pub atoms : n ≤ 16
  pub complete : Complete (atoms_below n) A

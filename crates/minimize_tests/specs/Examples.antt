-- Small automata.
use Rattle.std.specs.Prelude.{ℕ, ◌+◌, ◌-◌, ◌<◌, ◌≤◌, min, Bool, false, List, [], ◌==◌, length, slice_index, slice_index_or}
use Rattle.trees.specs.Automata.{Automaton}

-- steps by tables for three states and two atoms; entries past the last state stand for it
abbrev pub by_tables : ℕ → List Bool → List (List ℕ) → List (List (List ℕ)) → Automaton
by_tables size accepts single double = record {
  size = size;
  none = λ a. 0;
  single = λ p a. min (slice_index (slice_index_or single p []) a) (size - 1);
  double = λ p q a. min (slice_index (slice_index_or (slice_index_or double p []) q []) a) (size - 1);
  accepts = λ p. slice_index_or accepts p false;
}

-- each state but the last leads to the next, and the last accepts
abbrev pub chain : ℕ → Automaton
chain size = record {
  size = size;
  none = λ a. 0;
  single = λ p a. min (p + 1) (size - 1);
  double = λ p q a. 0;
  accepts = λ p. (p == size - 1);
}

-- each state leads to its entry, and state 0 accepts
abbrev pub arrows : List ℕ → Automaton
arrows next = record {
  size = length next;
  none = λ a. 0;
  single = λ p a. slice_index next p;
  double = λ p q a. 0;
  accepts = λ p. (p == 0);
}

-- there are 1 to 1,024 states, and each entry is one of them
pub record Sound (next : List ℕ) : Type 0 where
  pub some : 1 ≤ length next
  pub few : length next ≤ 1024
  pub below : (k : ℕ) → k < length next → slice_index next k < length next

-- Classes of an automaton's states as things: a class steps as its representative does.
use Rattle.std.specs.Prelude.{ℕ, List, nat_lt, slice_index}
use Rattle.trees.specs.Automata.{Automaton}
use Rattle.explore.specs.Steps.{Steps}
use Rattle.normal.specs.declared.class.Class.{Class}

abbrev pub class_of : List ℕ → ℕ → Class
class_of classes p = record { 0 = slice_index classes p }

abbrev pub rep_of : List ℕ → Class → ℕ
rep_of reps c = slice_index reps c.0

abbrev pub class_steps : ℕ → Automaton → List ℕ → List ℕ → ℕ → Steps Class
class_steps n A classes reps count = record {
  atoms = n;
  none = λ a. class_of classes (A.none a);
  single = λ c a. class_of classes (A.single (rep_of reps c) a);
  double = λ c d a. class_of classes (A.double (rep_of reps c) (rep_of reps d) a);
  accepts = λ c. A.accepts (rep_of reps c);
  fine = λ c. nat_lt c.0 count;
}

-- The automaton of things that stand in a list: its states are their places.
use Rattle.std.specs.Prelude.{◌≡◌, ℕ, ◌<◌, ◌≤◌, Bool, List, length, take, Ok, Err, Result, ◌≢◌}
use Rattle.trees.specs.Automata.{Automaton, Complete}
use Rattle.trees.specs.Rounds.{Combination, Numbered}
use Rattle.explore.specs.Firsts.{first_at}
use Rattle.explore.specs.Places.{place_of}
use Rattle.explore.specs.Rounds.{MoreThan, entry_at}
use Rattle.explore.specs.Steps.{Steps, letters}
use Rattle.explore.specs.declared.full.Full.{Full}

abbrev pub numbers_of : {E : Type 0} → Steps E → (E → E → Bool) → List E → Automaton
numbers_of S equal es = record {
  size = length es;
  none = λ a. place_of equal es (S.none a);
  single = λ p a. place_of equal es (S.single (entry_at S es p) a);
  double = λ p q a. place_of equal es (S.double (entry_at S es p) (entry_at S es q) a);
  accepts = λ k. S.accepts (entry_at S es k);
}

-- the list has all things that the steps lead to, each once, numbered by rounds
pub record Listed {E : Type 0} (S : Steps E) (equal : E → E → Bool) (es : List E) (first : ℕ → Combination) : Type 0 where
  pub complete : Complete (letters S.atoms) (numbers_of S equal es)
  pub numbered : Numbered (letters S.atoms) (numbers_of S equal es)
  pub firsts : (k : ℕ) → k < length es → numbered.first k ≡ first k
  pub once : (i j : ℕ) → i < j → j < length es → entry_at S es i ≢ entry_at S es j

-- the first n places hold all things, and the cells their first combinations; or there are more things than places
abbrev pub Lists : {E : Type 0} → Steps E → (E → E → Bool) → List E → Result ℕ Full → List E → List ℕ → Type 0
Lists S equal ds (Ok n) es cells = (n ≤ length es) × Listed S equal (take n es) (first_at cells)
Lists S equal ds (Err full) es cells = MoreThan (length ds) S

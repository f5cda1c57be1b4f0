-- What a sound shelf gives whoever reads it: facts that have one proof at most.
use Rattle.std.proofs.Common.{ℕ, ◌≤◌, List, get_or}
use mathlib.Core.Logic.{∥∥₁_elim}
use native.Mathlib.Bridge.{le_prop}
use Rattle.trees.specs.Automata.{Complete}
use Rattle.trees.specs.Trees.{letters}
use Rattle.bench.specs.Shelves.{automaton, Sound}

module _ (n : ℕ) (bs : List ℕ) (sound : ∥ Sound n bs ∥₁) where
  pub sound_few : get_or bs 0 0 ≤ 32
  sound_few = ∥∥₁_elim sound le_prop (λ s. s.laid.few)

  pub sound_complete : Complete (letters n) (automaton bs)
  sound_complete = record {
    none = λ a l. ∥∥₁_elim sound le_prop (λ s. s.normal.accepts.complete.none a l);
    single = λ p a h l. ∥∥₁_elim sound le_prop (λ s. s.normal.accepts.complete.single p a h l);
    double = λ p q a h k l. ∥∥₁_elim sound le_prop (λ s. s.normal.accepts.complete.double p q a h k l);
  }

-- One class more: what stays true when a class is parted.
use Rattle.std.proofs.Common.{◌≡◌, ℕ, ◌+◌, ◌<◌, cond, ltb, List, length, set, sym, ap, ◌∙◌, inl, inr, ⊎_elim, arith, length-set}
use Rattle.std.proofs.lemmas.Grind.{common_steps}
use Rattle.std.proofs.lemmas.Bool.{cases_eq, lt-ltb}
use Rattle.trees.specs.Automata.{Automaton, Complete}
use Rattle.trees.specs.Classes.{ToldApart, Tells, accept, single, left, right, Refines, Separate}
use Rattle.trees.proofs.Classes.{told, refined_classes}
use Rattle.minimize.specs.Automata.{atoms_below}
use Rattle.minimize.specs.Minimized.{ApartStates}
use Rattle.minimize.specs.Partitions.{Partition, Parted}
use Rattle.minimize.specs.Tests.{at, answer_of, Valid, Splits}
use Rattle.minimize.specs.declared.test.Found.{Found}
use Rattle.minimize.specs.declared.test.Test.{Test}
use Rattle.minimize.specs.declared.test.Test.TheVariants.{Accepts, Single, Left, Right}

-- states that answer a test differently are told apart by it
tells : (n : ℕ) (A : Automaton) (classes : List ℕ) (t : Test) (p q : ℕ) → Valid n A t → (answer_of A classes t p ≡ answer_of A classes t q → ⊥) → Tells (atoms_below n) A (at classes) p q
tells n A classes Accepts p q v d = accept (λ e. d (ap (λ b. cond b 1 0) e))
tells n A classes (Single a) p q v d = single a (lt-ltb a n v) d
tells n A classes (Left y a) p q v d = left y a v.0 (lt-ltb a n v.1) d
tells n A classes (Right y a) p q v d = right y a v.0 (lt-ltb a n v.1) d

module _ (n : ℕ) (A : Automaton) (classes : List ℕ) (t : Test) (r new : ℕ) (finer : List ℕ) (valid : Valid n A t) (parted : Parted A classes t r new finer) where
  same_part : (p q : ℕ) → p < A.size → q < A.size → at classes p ≡ at classes q → answer_of A classes t p ≡ answer_of A classes t q → at finer p ≡ at finer q
  same_part p q hp hq class answer = grind (arith, parted p hp, parted q hq, class, answer)

  parted_refines : Refines (atoms_below n) A (at classes) (at finer)
  parted_refines p q hp hq apart =
      ⊎_elim
      (λ class. inr (tells n A classes t p q valid (λ answer. apart (same_part p q hp hq class answer))))
      inl
      (cases_eq (at classes p) (at classes q))

module _ (n : ℕ) (A : Automaton) (classes reps : List ℕ) (count : ℕ) (f : Found) (part : Partition A classes reps count) (splits : Splits n A classes reps f) where
  -- the class that is parted
  own_class : at classes (at reps (at classes f.state)) ≡ at classes f.state
  own_class = part.own (at classes f.state) (part.below f.state splits.state)

  module _ (finer : List ℕ) (room : count < 32) (long : length finer ≡ A.size) (parted : Parted A classes f.test (at reps (at classes f.state)) count finer) where
    finer_below : (p : ℕ) → p < A.size → at finer p < count + 1
    finer_below p hp = grind (arith, parted p hp, part.below p hp)

    stays_own : (i : ℕ) → i < count → at finer (at reps i) ≡ i
    stays_own i hi = grind (arith, parted (at reps i) (part.within i hi), part.own i hi, own_class)

    parted_partition : Partition A finer (set reps count f.state) (count + 1)
    parted_partition =
        let inside : count < length reps = omega (arith, part.places) in
        record {
          states = long;
          places = length-set reps count f.state ∙ part.places;
          some = omega arith;
          few = omega arith;
          below = finer_below;
          within = λ i hi. grind (arith, common_steps, inside, part.within, splits.state);
          own = λ i hi. let new = (parted f.state splits.state).goes (sym own_class) splits.differs in grind (arith, common_steps, inside, stays_own, new);
        }

    -- one class more, and different classes are still told apart
    pub parted_classes : Complete (atoms_below n) A → Separate (atoms_below n) A (at classes) → Partition A finer (set reps count f.state) (count + 1) × Separate (atoms_below n) A (at finer)
    parted_classes complete separate = (
      parted_partition,
      refined_classes (atoms_below n) A (at classes) (at finer) complete separate (parted_refines n A classes f.test (at reps (at classes f.state)) count finer splits.valid parted),
    )

  -- with 32 classes, the representatives and the found state are 33 states, each two of them told apart
  module _ (full : count ≡ 32) (complete : Complete (atoms_below n) A) (separate : Separate (atoms_below n) A (at classes)) where
    abbrev state : ℕ → ℕ
    state k = cond (ltb k 32) (at reps k) f.state

    reps_apart : (i j : ℕ) → i < j → j < count → ToldApart (atoms_below n) A (at reps i) (at reps j)
    reps_apart i j hij hj =
        let hi : i < count = omega arith in
        separate (at reps i) (at reps j) (part.within i hi) (part.within j hj) (λ e. omega (arith, part.own i hi, part.own j hj, e))

    found_apart : (i : ℕ) → i < count → ToldApart (atoms_below n) A (at reps i) f.state
    found_apart i hi =
        ⊎_elim
        (λ here.
        told (atoms_below n) A (at classes) complete separate (at reps i) f.state (part.within i hi) splits.state
        (tells n A classes f.test (at reps i) f.state splits.valid (λ e. grind (arith, splits.differs, e, here))))
        (λ elsewhere. separate (at reps i) f.state (part.within i hi) splits.state (λ e. grind (arith, part.own i hi, e, elsewhere)))
        (cases_eq i (at classes f.state))

    pub too_many : ApartStates (atoms_below n) A 33
    too_many =
        record {
          state = state;
          within = λ k hk. grind (arith, part.within, splits.state);
          apart = λ i j hij hj. grind (arith, reps_apart, found_apart);
        }

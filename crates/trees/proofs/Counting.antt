-- How many trees can be incongruent, and how many states an automaton needs.
use Rattle.std.proofs.Common.{◌≡◌, ℕ, ◌+◌, ◌<◌, sym, refl, ◌∙◌, arith}
use Rattle.trees.specs.Trees.{Alphabet, Language}
use Rattle.trees.specs.Automata.{Automaton, run, For}
use Rattle.trees.specs.Classes.{Quotient}
use Rattle.trees.specs.Normal.{Apart}
use Rattle.trees.specs.Theorems.{Finite, ApartNeedsStates}
use Rattle.trees.proofs.Running.{run_below, same_state}
use Rattle.trees.proofs.Pigeonhole.{at_most}
use Rattle.trees.proofs.Classes.{incongruent, quotient_for}
use Rattle.trees.proofs.Exploring.{Reached, all_reached}
use Rattle.trees.proofs.Refining.{Parted, all_parted}

needs : (σ : Alphabet) (L : Language) (n : ℕ) → Apart σ L (n + 1) → (B : Automaton) → For σ L B → n < B.size
needs σ L n x B for =
    let most = at_most B.size (n + 1) (λ i. run B (x.at i)) (λ i h. run_below σ B for.complete (x.at i) (x.over i h))
    (λ i j l h e. x.apart i j l h (same_state σ L B for (x.at i) (x.at j) (x.over i (omega arith)) (x.over j h) e)) in
    omega arith

-- the classes as the states of an automaton
abbrev classes : (σ : Alphabet) (A : Automaton) (m : ℕ) → Parted σ A m → Automaton
classes σ A m c =
    record {
      size = m;
      none = λ a. c.class (A.none a);
      single = λ i a. c.class (A.single (c.of i) a);
      double = λ i j a. c.class (A.double (c.of i) (c.of j) a);
      accepts = λ i. A.accepts (c.of i);
    }

quotient : (σ : Alphabet) (A : Automaton) (m : ℕ) (c : Parted σ A m) → Quotient σ A c.class (classes σ A m c)
quotient σ A m c =
    record {
      of = c.of;
      within = λ i h. (c.own i h).0;
      own = λ i h. (c.own i h).1;
      below = c.below;
      accepts = λ i h. refl;
      none = λ a l. refl;
      single = λ i a h l. refl;
      double = λ i j a h g l. refl;
    }

apart : (σ : Alphabet) (L : Language) (n : ℕ) → Finite σ → Reached σ L → ((B : Automaton) → For σ L B → n < B.size) → Apart σ L (n + 1)
apart σ L n finite r more =
    let A = r.automaton in
    let enough = more A r.for in
    let done = all_parted σ A r.for.complete finite (omega arith) in
    let m = done.0 in
    let c = done.1 in
    let many = more (classes σ A m c) (quotient_for σ A (classes σ A m c) c.class r.for.complete done.2 (quotient σ A m c) L r.for) in
    record {
      at = λ i. r.at (c.of i);
      over = λ i h. r.over (c.of i) (c.own i (omega arith)).0;
      apart = λ i j l h.
          let x = c.own i (omega arith) in
          let y = c.own j (omega arith) in
          incongruent σ L A r.for (λ s b. (r.at s, r.over s b, r.has s b))
          (c.separate (c.of i) (c.of j) x.0 y.0 (λ e. let same : i ≡ j = sym x.1 ∙ e ∙ y.1 in omega arith))
          (r.at (c.of i)) (r.at (c.of j)) (r.over (c.of i) x.0) (r.over (c.of j) y.0) (r.has (c.of i) x.0) (r.has (c.of j) y.0);
    }

pub apart_needs_states : ApartNeedsStates
apart_needs_states σ L A n finite for = (needs σ L n, apart σ L n finite (all_reached σ L A for finite))

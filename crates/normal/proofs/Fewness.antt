-- There are no more classes than places in their order.
use Rattle.std.proofs.Common.{◌≡◌, ℕ, suc, ◌≤◌, List, length, Ok, Err, Result, IsOk, Decides, ap, arith, rules}
use Rattle.std.proofs.lemmas.Grind.{common_steps}
use Rattle.std.proofs.lemmas.Bool.{ltb-true}
use Rattle.trees.specs.Automata.{Automaton}
use Rattle.trees.proofs.Pigeonhole.{at_most}
use Rattle.explore.specs.Rounds.{MoreThan}
use Rattle.explore.specs.Steps.{Fit}
use Rattle.explore.proofs.Advancing.{made_fine}
use Rattle.explore.specs.Listing.{Lists}
use Rattle.explore.specs.declared.full.Full.{Full}
use Rattle.minimize.specs.Automata
use Rattle.minimize.specs.Partitions.{Partition}
use Rattle.normal.specs.Classes.{class_steps}
use Rattle.normal.specs.Orders.{same_class}
use Rattle.normal.specs.declared.class.Class.{Class}

module _ (n : ℕ) (A : Automaton) (classes reps : List ℕ) (count : ℕ) (fit : Automata.Fit n A) (parts : Partition A classes reps count) where
  class_fit : Fit (class_steps n A classes reps count)
  class_fit = search (rules, common_steps)

  never_full : (many : ℕ) → count ≤ many → MoreThan many (class_steps n A classes reps count) → ⊥
  never_full many few more =
      let small = made_fine class_fit more.entry more.first (suc many) (λ k h. more.allowed k (omega arith)) (λ k h. more.earlier k (omega arith)) (λ k h. more.made k (omega arith)) in
      let le = at_most many (suc many) (λ k. (more.entry k).0) (λ k h. let lt = ltb-true (more.entry k).0 count (small k h) in omega arith) (λ i j lt h e. more.once i j lt (omega arith) (ap (λ x. record { 0 = x }) e)) in
      omega arith

  pub all_listed : (order es : List Class) (cells : List ℕ) (r : Result ℕ Full) → length order ≡ 32 → Lists (class_steps n A classes reps count) same_class order r es cells → IsOk r
  all_listed order es cells (Ok size) long lists = search rules
  all_listed order es cells (Err full) long more = absurd (never_full (length order) (omega (arith, parts.few)) more)

pub class_exact : (x y : Class) → Decides (same_class x y) (x ≡ y)
class_exact x y = search rules

use Rattle.std.proofs.Common.{rules, ◌≡◌, min, ◌-◌, ◌^◌, arith}
use Rattle.std.proofs.lemmas.Nat.{one_shl}
use Rattle.labels.proofs.Bits.{has_others}
use Rattle.labels.proofs.set.GuardSet.others.Goals as goal
use Rattle.labels.proofs.set.GuardSet.others.Goals.{then-count-lt32, else-count-lt32}

pub returns : goal.returns
returns c =
    let below : c.if-count-lt32.below ≡ 2 ^ min c.args.count 32 - 1 =
    elim c.if-count-lt32.branch [
      | then-count-lt32 w ↦ let few = one_shl c.args.count 32 w.if-count-lt32.true in grind (arith, few, w.below-is)
      | else-count-lt32 w ↦ grind (arith, w.below-is)
    ]
    in
    λ g. has_others c.args.self.0 c.args.count c.if-count-lt32.below g (search rules) below

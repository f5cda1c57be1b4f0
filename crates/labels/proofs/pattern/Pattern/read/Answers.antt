use Rattle.std.proofs.Common.{◌≡◌, false, get_or, Some, subst, arith}
use Rattle.std.proofs.lemmas.Bool.{and_right}
use Rattle.labels.specs.Masks.{Bit}
use Rattle.labels.specs.Patterns.{sign}
use Rattle.labels.proofs.Masks.{one_read, room, spoiled, all_read, asks_small, one_small}
use Rattle.labels.proofs.pattern.Pattern.read.Goals as goal
use Rattle.labels.proofs.pattern.Pattern.read.Goals.{In_ok-asks}

pub returns-in_err-asks : goal.returns-in_err-asks
returns-in_err-asks c =
    let bad : sign (get_or c.args.text.now c.loop-b.b-index 0) ≡ false = subst (λ b. sign b ≡ false) c.from.ensures c.in_err-asks.ensures in
    rw c.from_residual.ensures (and_right _ _ (spoiled c.loop-b.invariant c.loop-b-test.true bad))

-- what the character says
said : (c : In_ok-asks) → Bit (get_or c.args.text.now c.loop-b.b-index 0) (Some (c.in_ok-asks.asks, c.in_ok-asks.one))
said c = subst (λ b. Bit b (Some (c.in_ok-asks.asks, c.in_ok-asks.one))) c.from.ensures c.in_ok-asks.ensures

pub overflow_mul-care : goal.overflow_mul-care
overflow_mul-care c = omega (arith, (room c.loop-b.invariant c.loop-b-test.true c.if-text-ne16.false).0)

pub overflow_add-care : goal.overflow_add-care
overflow_add-care c =
    let bit = said c in
    omega (arith, (room c.loop-b.invariant c.loop-b-test.true c.if-text-ne16.false).0, bit.1, asks_small (get_or c.args.text.now c.loop-b.b-index 0))

pub overflow_mul-value : goal.overflow_mul-value
overflow_mul-value c = omega (arith, (room c.loop-b.invariant c.loop-b-test.true c.if-text-ne16.false).1)

pub overflow_add-value : goal.overflow_add-value
overflow_add-value c =
    let bit = said c in
    omega (arith, (room c.loop-b.invariant c.loop-b-test.true c.if-text-ne16.false).1, bit.2, one_small (get_or c.args.text.now c.loop-b.b-index 0))

pub loop-b-preserved : goal.loop-b-preserved
loop-b-preserved c = one_read c.loop-b.invariant c.loop-b-test.true (c.in_ok-asks.asks, c.in_ok-asks.one) (said c)

pub returns : goal.returns
returns c = all_read c.args.text.now c.loop-b.b-index c.loop-b.care c.loop-b.value c.if-text-ne16.false c.loop-b-test.false c.loop-b.invariant

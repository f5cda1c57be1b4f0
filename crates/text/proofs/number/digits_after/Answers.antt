use Rattle.std.proofs.Common.{ℕ, ◌+◌, ◌*◌, sym, subst, arith}
use Rattle.text.proofs.Reading.{Read, read_more, read_fits, read_all}
use Rattle.text.proofs.number.digits_after.Goals as goal

pub overflow_mul-n : goal.overflow_mul-n
overflow_mul-n c = omega (arith, read_fits _ _ _ _ _ (omega arith) c.loop-c.invariant c.in_ok-d.ensures.0)

pub overflow_add-n : goal.overflow_add-n
overflow_add-n c = omega (arith, c.in_ok-d.ensures.1, read_fits _ _ _ _ _ (omega arith) c.loop-c.invariant c.in_ok-d.ensures.0)

pub loop-c-preserved : goal.loop-c-preserved
loop-c-preserved c =
    let P = λ (d : ℕ). Read c.args.base c.args.before c.args.word.now (c.loop-c.c-index + 1) (c.loop-c.n * c.args.base + d) in
    subst P (sym c.in_ok-d.ensures.1) (read_more _ _ _ _ _ (omega arith) c.loop-c.invariant c.in_ok-d.ensures.0)

pub returns : goal.returns
returns c = read_all _ _ _ _ _ (omega arith) c.loop-c.invariant

use Rattle.std.proofs.Common.{arith, length-set}
use Rattle.explore.proofs.Places.{push_once}
use Rattle.explore.proofs.numbering.Numbering.number.Goals as goal

pub invariant_of-self : goal.invariant_of-self
invariant_of-self g c =
    let old = c.args.self.now in
    record {
      within = simp length-set (omega (arith, old.within));
      once = λ i j lt h. push_once old.entries.now old.len c.args.e (omega (arith, c.if-n-self.false)) old.once c.in_default.ensures i j lt (omega arith);
    }

pub invariant_of-self-2 : goal.invariant_of-self-2
invariant_of-self-2 g c =
    let old = c.args.self.now in
    record {
      within = simp length-set (omega (arith, c.if-n-self.false));
      once = push_once old.entries.now old.len c.args.e (omega (arith, c.if-n-self.false)) old.once c.in_default.ensures;
    }

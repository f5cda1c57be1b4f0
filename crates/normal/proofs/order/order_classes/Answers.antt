use Rattle.std.proofs.Common.{take, subst}
use Rattle.explore.specs.Firsts.{first_at}
use Rattle.explore.specs.Listing.{Lists}
use Rattle.normal.specs.Classes.{class_steps}
use Rattle.normal.specs.Orders.{same_class}
use Rattle.normal.proofs.Fewness.{all_listed, class_exact}
use Rattle.normal.proofs.Quotients.{quotient_normal}
use Rattle.normal.proofs.order.order_classes.Goals as goal

pub unwrap-size-requires : goal.unwrap-size-requires
unwrap-size-requires g c =
    let m = c.args.m.now in
    let to = c.minimize.new in
    all_listed (g.M.TreeAutomaton.letters m) (g.M.TreeAutomaton.meaning m) to.classes to.reps c.in_ok-count.count c.fit.ensures c.in_ok-count.ensures.partition c.args.order.now c.explore.new.entries c.explore.new.firsts c.explore.result c.requires.order_long c.explore.ensures

pub returns : goal.returns
returns g c =
    let m = c.args.m.now in
    let n = g.M.TreeAutomaton.letters m in
    let A = g.M.TreeAutomaton.meaning m in
    let to = c.minimize.new in
    let least = c.in_ok-count.ensures in
    let es = c.explore.new.entries in
    let cells = c.explore.new.firsts in
    let lists = subst (λ r. Lists (class_steps n A to.classes to.reps c.in_ok-count.count) same_class c.args.order.now r es cells) c.unwrap-size.ensures c.explore.ensures in
    record {
      classed = least;
      few = lists.0;
      listed = lists.1;
      normal = λ L for reachable. quotient_normal n A to.classes to.reps c.in_ok-count.count least c.fit.ensures.complete class_exact (take c.unwrap-size.result es) (first_at cells) lists.1 reachable L for;
    }

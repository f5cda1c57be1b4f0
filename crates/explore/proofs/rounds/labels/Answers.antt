use Rattle.std.proofs.Common.{◌<◌, Ok, Err, arith}
use Rattle.std.proofs.lemmas.Result.{err_from_is_err_and}
use Rattle.explore.proofs.Advancing.{label_on}
use Rattle.explore.proofs.rounds.labels.Goals as goal

pub returns-in_err-try_one : goal.returns-in_err-try_one
returns-in_err-try_one g c =
    let p = err_from_is_err_and c.from_residual.result c.from_residual.ensures.1 in
    let S = g.S.Stepping.steps c.args.steps.now in
    let a = c.loop-a.a in
    let label : a < S.atoms = omega (arith, c.loop-a-test.true, c.atoms-a-end.ensures) in
    rw p.1 (label_on c.args.children a c.requires.turn c.requires.stands.at.ordered.1 c.loop-a.invariant.0 c.loop-a.invariant.1 label c.thing.result (c.requires.leads a c.thing.result label c.thing.ensures) (Err c.in_err-try_one.field-0.0) c.try_one.new.found c.try_one.new.firsts c.in_err-try_one.ensures)

pub loop-a-preserved : goal.loop-a-preserved
loop-a-preserved g c =
    let S = g.S.Stepping.steps c.args.steps.now in
    let a = c.loop-a.a in
    let label : a < S.atoms = omega (arith, c.loop-a-test.true, c.atoms-a-end.ensures) in
    label_on c.args.children a c.requires.turn c.requires.stands.at.ordered.1 c.loop-a.invariant.0 c.loop-a.invariant.1 label c.thing.result (c.requires.leads a c.thing.result label c.thing.ensures) (Ok c.in_ok-try_one.field-0) c.try_one.new.found c.try_one.new.firsts c.in_ok-try_one.ensures

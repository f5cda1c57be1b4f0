use Rattle.std.proofs.Common.{map, drop, sym, subst, arith}
use Rattle.std.proofs.lemmas.List.{drop_all}
use Rattle.std.proofs.lemmas.Result.{err_from_is_err_and}
use Rattle.text.specs.Tokens.{sign_of}
use Rattle.blocks.specs.Reading.{Reads}
use Rattle.blocks.proofs.Reading.{none_read, one_read, one_refused}
use Rattle.blocks.proofs.guards.take_rows.Goals as goal

pub loop-at-init : goal.loop-at-init
loop-at-init g c = (omega arith, none_read g.K.Readable.format (map sign_of c.args.tokens.now) (g.K.LabelKind.book c.args.kind.now) c.requires)

pub returns-in_err-at : goal.returns-in_err-at
returns-in_err-at g c =
    let p = err_from_is_err_and c.from_residual.result c.from_residual.ensures.1 in
    let so_far = c.loop-at.invariant.1 in
    rw (p.1, p.2) (one_refused g.K.Readable.format (g.K.LabelKind.book c.args.kind.now).meaning (map sign_of c.args.tokens.now) (g.K.LabelKind.book c.loop-at.kind) (map sign_of (drop c.loop-at.at c.args.tokens.now)) so_far c.in_err-at.field-0.0 (c.in_err-at.ensures so_far.count so_far.held))

pub loop-at-smaller : goal.loop-at-smaller
loop-at-smaller g c =
    let so_far = c.loop-at.invariant.1 in
    let told = c.in_ok-at.ensures so_far.count so_far.held in
    omega (arith, told.0, told.1)

pub loop-at-preserved : goal.loop-at-preserved
loop-at-preserved g c =
    let so_far = c.loop-at.invariant.1 in
    let told = c.in_ok-at.ensures so_far.count so_far.held in
    (told.0, one_read g.K.Readable.format (g.K.LabelKind.book c.args.kind.now).meaning (map sign_of c.args.tokens.now) (g.K.LabelKind.book c.loop-at.kind) (g.K.LabelKind.book c.take_row.new.kind) (map sign_of (drop c.loop-at.at c.args.tokens.now)) (map sign_of (drop c.in_ok-at.at c.args.tokens.now)) so_far told.2)

pub returns : goal.returns
returns g c =
    let so_far = c.loop-at.invariant.1 in
    let end = drop_all c.loop-at.at c.args.tokens.now c.loop-at-test.false in
    (so_far.count, λ b o r. so_far.goes_on b o (subst (λ l. Reads g.K.Readable.format (g.K.LabelKind.book c.loop-at.kind).meaning so_far.count (map sign_of l) b o) (sym end) r))

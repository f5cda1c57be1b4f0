use Rattle.std.proofs.Common.{map, drop, sym, ◌∙◌, subst}
use Rattle.std.proofs.lemmas.List.{take_rest}
use Rattle.std.proofs.lemmas.Result.{err_from_is_err_and}
use Rattle.text.specs.Tokens.{sign_of}
use Rattle.blocks.specs.Rows.{Writes, Unread, Stops}
use Rattle.blocks.proofs.Taking.{row_taken, row_stopped, writes_by, unread_stopped, row_next, row_left, rest_moved}
use Rattle.blocks.proofs.guards.take_row.Given as given
use Rattle.blocks.proofs.guards.take_row.Goals as goal
use Rattle.blocks.proofs.guards.take_row.Goals.{In_ok-row}

-- what the line says
written : (g : given.Over) (c : In_ok-row g) → Writes g.K.Readable.format (map sign_of (drop c.args.at c.args.tokens.now)) c.in_ok-row.row.line c.in_ok-row.row.guard ((g.K.LabelKind.book c.args.kind.now).formed c.in_ok-row.row.value) ((g.K.LabelKind.book c.args.kind.now).labels c.in_ok-row.row.value) (map sign_of c.in_ok-row.row.rest.now)
written g c =
    let row = c.in_ok-row.row in
    let b = g.K.LabelKind.book c.args.kind.now in
    let plain = g.met.K.Readable.plain c.args.kind.now in
    subst (λ l. Writes g.K.Readable.format (map sign_of l) row.line row.guard (b.formed row.value) (b.labels row.value) (map sign_of row.rest.now)) (take_rest c.args.tokens.now c.args.at)
    (writes_by b g.K.Readable.formed g.K.Readable.labels row.value plain.0 plain.1 c.in_ok-row.ensures)

pub returns-in_err-row : goal.returns-in_err-row
returns-in_err-row g c =
    let p = err_from_is_err_and c.from_residual.result c.from_residual.ensures.1 in
    let ts = c.args.tokens.now in
    λ k held. rw (p.1, p.2) (unread_stopped g.K.Readable.format k (map sign_of (drop c.args.at ts)) c.in_err-row.field-0.0 (subst (λ l. Stops (Unread g.K.Readable.format (map sign_of l)) c.in_err-row.field-0.0) (take_rest ts c.args.at) c.in_err-row.ensures))

pub returns-in_err-add_at : goal.returns-in_err-add_at
returns-in_err-add_at g c =
    let b = g.K.LabelKind.book c.args.kind.now in
    let p = err_from_is_err_and c.from_residual-in_err-add_at.result c.from_residual-in_err-add_at.ensures.1 in
    λ k held. rw (p.1, p.2) (row_stopped b c.in_ok-row.row.value (written g (goal.at.returns-in_err-add_at g c).In_ok-row) k held c.in_err-add_at.field-0.0 c.in_err-add_at.ensures)

pub overflow_sub-result : goal.overflow_sub-result
overflow_sub-result g c =
    let w = written g (goal.at.overflow_sub-result g c).In_ok-row in
    (row_next c.args.tokens.now c.args.at c.in_ok-row.row.line c.requires w.at c.in_ok-row.row.rest.now w.left).0

pub returns : goal.returns
returns g c =
    let b = g.K.LabelKind.book c.args.kind.now in
    let row = c.in_ok-row.row in
    let told = c.in_ok-add_at.ensures in
    let w = written g (goal.at.returns g c).In_ok-row in
    let next = row_next c.args.tokens.now c.args.at row.line c.requires w.at row.rest.now w.left in
    let left = row_left c.args.tokens.now c.args.at row.line c.requires w.at row.rest.now w.left in
    λ k held. (next.1, next.2, row_taken b row.value (rest_moved w (sym w.left ∙ left)) k held (g.K.LabelKind.book c.add_at.new.kind) told.0 told.1)

use Rattle.std.proofs.lemmas.Result.{err_from_is_err_and}
use Rattle.text.specs.Tokens.{sign_of}
use Rattle.std.proofs.Common.{map, string_bytes}
use Rattle.blocks.proofs.Answering.{rows_declined, bad_declined, many_declined, tabulated}
use Rattle.blocks.proofs.answer.table_of.Goals as goal

pub returns-in_err-take_rows : goal.returns-in_err-take_rows
returns-in_err-take_rows g c =
    let p = err_from_is_err_and c.from_residual.result c.from_residual.ensures.1 in
    rw (p.1, p.2) (rows_declined g.K.Readable.format (g.K.LabelKind.book c.args.kind).meaning (map sign_of c.args.tokens.now) c.args.bad c.in_err-take_rows.field-0.0 c.in_err-take_rows.ensures)

pub returns-in-Some : goal.returns-in-Some
returns-in-Some g c =
    let told = c.in_ok-take_rows.ensures in
    rw c.into.ensures (bad_declined g.K.Readable.format (g.K.LabelKind.book c.args.kind).meaning (map sign_of c.args.tokens.now) c.args.bad (g.K.LabelKind.book c.take_rows.new.kind).meaning told.0 told.1 c.in-Some.line c.in-Some.is)

pub returns-in_err-atoms : goal.returns-in_err-atoms
returns-in_err-atoms g c =
    let told = c.in_ok-take_rows.ensures in
    let p = err_from_is_err_and c.from_residual-in_err-atoms.result c.from_residual-in_err-atoms.ensures.1 in
    rw (p.1, p.2) (many_declined g.K.Readable.format (g.K.LabelKind.book c.args.kind).meaning (map sign_of c.args.tokens.now) c.args.bad (g.K.LabelKind.book c.take_rows.new.kind).meaning told.0 told.1 c.in_default.is c.in_err-atoms.ensures.0)

pub returns : goal.returns
returns g c =
    let told = c.in_ok-take_rows.ensures in
    tabulated g.K.Readable.format (g.K.LabelKind.book c.args.kind).meaning (map sign_of c.args.tokens.now) c.args.bad (g.K.LabelKind.book c.take_rows.new.kind).meaning told.0 told.1 c.in_default.is c.atoms.new.table (string_bytes c.in_ok-print_table.field-0) c.in_ok-atoms.ensures.0 c.in_ok-print_table.ensures

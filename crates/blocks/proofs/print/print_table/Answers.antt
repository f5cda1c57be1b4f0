use Rattle.std.proofs.Common.{◌≡◌, length, ap, ◌∙◌, arith, length-take-le}
use Rattle.blocks.specs.Printing.{table_text}
use Rattle.blocks.proofs.Printing.{one_atom_more}
use Rattle.blocks.proofs.print.print_table.Goals as goal

pub loop-k-preserved : goal.loop-k-preserved
loop-k-preserved c =
    let t = c.args.table.now in
    let items = ap length c.as_slice-atom-items.ensures ∙ length-take-le t.count t.atoms (omega (arith, t.within, t.long)) in
    one_atom_more t.atoms _ t.count t.guards _ c.loop-k.k _ _ c.as_slice-atom-items.ensures (omega (arith, items)) c.guards.ensures c.loop-k.invariant c.in_ok-push_atom.ensures

pub returns : goal.returns
returns c =
    let t = c.args.table.now in
    let items = ap length c.as_slice-atom-items.ensures ∙ length-take-le t.count t.atoms (omega (arith, t.within, t.long)) in
    let end : c.loop-k.k ≡ t.count = omega (arith, items) in
    c.loop-k.invariant ∙ ap (table_text t.atoms t.guards) end

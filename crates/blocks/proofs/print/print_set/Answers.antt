use Rattle.std.proofs.Common.{◌≡◌, string_bytes, decimal, sym, refl, ap, ◌∙◌, arith, true-eqb, false-eqb, rules}
use Rattle.std.proofs.lemmas.Iterator.{YieldsList-from_range}
use Rattle.std.proofs.lemmas.Iterator.Consumers.{YieldsList-from_filter}
use Rattle.labels.specs.Sets.{has}
use Rattle.blocks.specs.Printing.{commas, members}
use Rattle.blocks.proofs.Printing.{run_joined, dash_added, all_listed}
use Rattle.blocks.proofs.print.print_set.Goals as goal
use Rattle.blocks.proofs.print.print_set.Goals.{then-is_empty+in_ok-push, else-is_empty}

pub returns : goal.returns
unfolding lib.Utf8.encode
returns c =
    let set = c.args.set.0 in
    let u = c.in_ok-out.ensures.text in
    let range = YieldsList-from_range 0 c.args.count c.args.count c.filter.ensures.source (omega arith) in
    let road = YieldsList-from_filter _ (has set) range c.filter.ensures.closure (search rules) in
    let text : string_bytes c.in_ok-out.out ≡ commas (members c.args.count set) = u.3 decimal (λ x. refl) ∙ run_joined c.args.count set u.0 u.1 u.2 road in
    elim c.if-is_empty.branch [
      | then-is_empty+in_ok-push w ↦ ap (λ s. string_bytes s) w.out-is ∙ w.in_ok-push.ensures.bytes ∙ dash_added c.args.count set _ (omega arith) text (sym c.in_ok-out.out.bytes.ok.0 ∙ true-eqb _ 0 w.if-is_empty.ensures)
      | else-is_empty w ↦ ap (λ s. string_bytes s) w.out-is ∙ all_listed c.args.count set _ (omega arith) text (let some = false-eqb _ 0 w.if-is_empty.ensures in omega (arith, c.in_ok-out.out.bytes.ok.0))
    ]

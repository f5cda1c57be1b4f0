use Rattle.blocks.specs.declared.refusal.Stop.TheVariants.{Refused}
use Rattle.blocks.proofs.Stopping.{stopped}
use Rattle.blocks.proofs.Writing.{tag_misspelt, tag_written}
use Rattle.blocks.proofs.kinds.TagsReadable.read_row.Goals as goal

pub returns-in_err-tag : goal.returns-in_err-tag
returns-in_err-tag c =
    let row = c.in_ok-guard.ensures in
    let none = rw c.in_err-tag.ensures.ok_part at c.number.ensures in
    stopped Refused _ _ _ _ _ _ c.in_err-tag.ensures.ok_part c.in_err-tag.ensures.value c.from_residual-in_err-tag.ensures.1 (tag_misspelt row.2 (λ r. none r.1))

pub returns : goal.returns
returns c =
    let row = c.in_ok-guard.ensures in
    let tag = rw c.in_ok-tag.ensures.ok_part at c.number.ensures in
    tag_written row.2 c.in_ok-guard.guard c.in_ok-tag.tag row.3 row.4 tag.0 tag.1

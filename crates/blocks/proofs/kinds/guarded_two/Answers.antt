use Rattle.blocks.proofs.Stopping.{stopped}
use Rattle.blocks.proofs.Writing.{tag_misspelt, pattern_misspelt}
use Rattle.blocks.proofs.kinds.guarded_two.Goals as goal

pub returns-in_err-guard : goal.returns-in_err-guard
returns-in_err-guard c =
    let row = rw c.in_ok-row.ensures.ok_part at c.cut_two.ensures in
    let none = rw c.in_err-guard.ensures.ok_part at c.number.ensures in
    stopped (λ x. x) _ _ _ _ _ _ c.in_err-guard.ensures.ok_part c.in_err-guard.ensures.value c.from_residual-in_err-guard.ensures.1 (tag_misspelt row.2 (λ r. none r.0), pattern_misspelt row.2 none)

use Rattle.blocks.specs.declared.refusal.Stop.TheVariants.{Refused}
use Rattle.blocks.proofs.Stopping.{stopped}
use Rattle.blocks.proofs.Writing.{range_misspelt, range_written}
use Rattle.blocks.proofs.kinds.CodePointsReadable.read_row.Goals as goal

pub returns-in_err-guard : goal.returns-in_err-guard
returns-in_err-guard c =
    let row = rw c.in_ok-row.ensures.ok_part at c.cut_three.ensures in
    let none = rw c.in_err-guard.ensures.ok_part at c.number.ensures in
    stopped Refused _ _ _ _ _ _ c.in_err-guard.ensures.ok_part c.in_err-guard.ensures.value c.from_residual-in_err-guard.ensures.1 (range_misspelt row.3 (λ r. none r.0))

pub returns-in_err-low : goal.returns-in_err-low
returns-in_err-low c =
    let row = rw c.in_ok-row.ensures.ok_part at c.cut_three.ensures in
    let none = rw c.in_err-low.ensures.ok_part at c.hex_number.ensures in
    stopped Refused _ _ _ _ _ _ c.in_err-low.ensures.ok_part c.in_err-low.ensures.value c.from_residual-in_err-low.ensures.1 (range_misspelt row.3 (λ r. none r.1.0))

pub returns-in_err-high : goal.returns-in_err-high
returns-in_err-high c =
    let row = rw c.in_ok-row.ensures.ok_part at c.cut_three.ensures in
    let none = rw c.in_err-high.ensures.ok_part at c.hex_number-2.ensures in
    stopped Refused _ _ _ _ _ _ c.in_err-high.ensures.ok_part c.in_err-high.ensures.value c.from_residual-in_err-high.ensures.1 (range_misspelt row.3 (λ r. none r.1.1))

pub returns : goal.returns
returns c =
    let row = rw c.in_ok-row.ensures.ok_part at c.cut_three.ensures in
    let guard = rw c.in_ok-guard.ensures.ok_part at c.number.ensures in
    let low = rw c.in_ok-low.ensures.ok_part at c.hex_number.ensures in
    let high = rw c.in_ok-high.ensures.ok_part at c.hex_number-2.ensures in
    range_written row.3 c.in_ok-guard.guard c.in_ok-low.low c.in_ok-high.high guard.0 guard.1 low.0 low.1 high.0 high.1

use Rattle.std.proofs.Common.{string_bytes}
use Rattle.blocks.proofs.Writing.{pattern_written}
use Rattle.blocks.proofs.kinds.EventWordsReadable.read_row.Goals as goal

pub returns : goal.returns
returns c =
    let row = c.in_ok-guard.ensures in
    pattern_written row.2 c.in_ok-guard.guard (string_bytes c.in_ok-value.value) row.3 row.4 c.in_ok-value.ensures

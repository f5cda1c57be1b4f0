use Rattle.blocks.proofs.Answering.{block_said, block_unnamed}
use Rattle.blocks.proofs.answer.say.Goals as goal

pub returns-in-Some : goal.returns-in-Some
returns-in-Some c = rw (← c.as_slice-tokens.ensures.value) (block_said _ c.in-Some.ensures c.in_ok-new.ensures.meaning _ c.table_of.ensures)

pub returns-in-Some-behind_names : goal.returns-in-Some-behind_names
returns-in-Some-behind_names c = rw (← c.as_slice-tokens.ensures.value) (block_said _ c.in-Some-behind_names.ensures c.new-in-Some-behind_names.ensures _ c.table_of-in-Some-behind_names.ensures)

pub returns-in-Some-behind_names-2 : goal.returns-in-Some-behind_names-2
returns-in-Some-behind_names-2 c = rw (← c.as_slice-tokens.ensures.value) (block_said _ c.in-Some-behind_names-2.ensures c.in_ok-new-2.ensures.meaning _ c.table_of-in-Some-behind_names-2.ensures)

pub returns : goal.returns
returns c = rw (c.into.ensures, ← c.as_slice-tokens.ensures.value) (block_unnamed _ _ c.in_default.ensures c.in_default-behind_names.ensures c.in_default-behind_names-2.ensures)

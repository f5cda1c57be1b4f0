use Rattle.blocks.proofs.Cutting.{first_sign}
use Rattle.blocks.proofs.cuts.first_line.Goals as goal

pub returns : goal.returns
returns c = (_, _, first_sign c.args.tokens.now _ c.requires, c.line.ensures)

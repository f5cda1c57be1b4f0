use Rattle.std.proofs.Common.{refl, arith}
use Rattle.text.proofs.Cutting.{first_is}
use Rattle.text.proofs.Lines.{blank_line}
use Rattle.text.proofs.token.push_line.Goals as goal

pub returns-in-10 : goal.returns-in-10
returns-in-10 c = blank_line _ _ _ (first_is c.args.text.now 10 c.requires (omega arith)) _ _ refl _ c.in_ok-push.ensures.items

use Rattle.std.proofs.Common.{true-eqb}
use Rattle.std.proofs.lemmas.Option.{MatchOption-at_none}
use Rattle.text.proofs.Lines.{all_lines, bad_line}
use Rattle.text.proofs.token.scan.Goals as goal

pub returns-in_default : goal.returns-in_default
returns-in_default c =
    let told = MatchOption-at_none _ _ c.in_default.is c.in_ok-after.ensures in
    bad_line _ _ _ _ _ c.loop-rest.invariant told.0 told.1

pub returns : goal.returns
returns c = all_lines _ _ _ _ c.loop-rest.invariant (true-eqb _ 0 c.loop-rest-test.ensures)

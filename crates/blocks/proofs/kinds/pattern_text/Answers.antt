use Rattle.std.proofs.Common.{◌≡◌, string_bytes, sym, subst}
use Rattle.std.proofs.lemmas.Result.{IfOk-weaker}
use Rattle.blocks.specs.Rows.{SamePattern}
use Rattle.blocks.proofs.Writing.{text_pattern}
use Rattle.blocks.proofs.kinds.pattern_text.Goals as goal

pub returns : goal.returns
returns c =
    let word = c.args.word.now in
    let told = text_pattern _ word _ _ c.from_utf8.ensures.cases c.unwrap_or_default.ensures in
    IfOk-weaker _ (λ t. string_bytes t ≡ c.unwrap_or_default.result.now) _ (λ t e. subst (λ l. SamePattern l word) (sym e) told) c.from_str.ensures.ok

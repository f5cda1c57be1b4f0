use Rattle.std.proofs.Common.{◌<◌, [], ◌∷◌, ◌++◌, length, refl, arith, ltb-false, ltb-true, true-eqb, false-eqb}
use Rattle.std.proofs.lemmas.List.{get_or_past}
use Rattle.text.proofs.Cutting.{Front, front_at, first_is, pushing_none, stuck, one_added, one_more, last_word}
use Rattle.text.proofs.token.push_words.Goals as goal
use Rattle.text.proofs.token.push_words.Goals.{After-split_at, in_default-via-then-after-lt1, in_default-via-else-after-lt1+in_default-1}

-- the word that is cut off is the longest one
found : (c : After-split_at) → Front c.loop-word.rest.now c.split_at.result.0.now c.split_at.result.1.now
found c = let told = c.word_len.ensures in front_at _ _ _ _ told.within told.visible told.stops c.split_at.ensures.front c.split_at.ensures.back

pub loop-word-init : goal.loop-word-init
loop-word-init c = pushing_none _ _ _

pub returns-then-is_empty : goal.returns-then-is_empty
returns-then-is_empty c = (
  stuck _ _ _ _ _ c.loop-word.invariant _ _ (found (goal.at.returns-then-is_empty c).After-split_at) (λ some. absurd (omega (arith, true-eqb _ 0 c.if-is_empty.ensures))),
  (c.loop-word.invariant.more, c.loop-word.invariant.added),
)

pub loop-word-preserved : goal.loop-word-preserved
loop-word-preserved c =
    let some : 0 < length c.split_at.result.0.now = omega (arith, false-eqb _ 0 c.if-is_empty.ensures) in
    let follows = first_is c.split_at.result.1.now 32 (omega (arith, ltb-false)) (omega arith) in
    one_more _ _ _ _ _ c.loop-word.invariant _ _ (found (goal.at.loop-word-preserved c).After-split_at) some _ _ refl _ c.in_ok-push.ensures.items follows

pub returns-in-10 : goal.returns-in-10
returns-in-10 c =
    let some : 0 < length c.split_at.result.0.now = omega (arith, false-eqb _ 0 c.if-is_empty.ensures) in
    let follows = first_is c.split_at.result.1.now 10 (omega (arith, ltb-false)) (omega arith) in
    last_word _ _ _ _ _ c.loop-word.invariant _ _ (found (goal.at.returns-in-10 c).After-split_at) some _ _ refl _ c.in_ok-push.ensures.items follows _ refl _ c.in_ok-push-in-10.ensures.items

pub returns-in_default : goal.returns-in_default
returns-in_default c = (
  stuck _ _ _ _ _ c.loop-word.invariant _ _ (found (goal.at.returns-in_default c).After-split_at) (λ some.
      elim c.in_default.branch [
        | in_default-via-then-after-lt1 w ↦ let none = get_or_past c.split_at.result.1.now 0 0 (omega (arith, ltb-true)) in (λ e. omega arith, λ e. omega arith)
        | in_default-via-else-after-lt1+in_default-1 w ↦ (λ e. omega arith, λ e. omega arith)
      ]),
  (c.loop-word.invariant.more ++ _ ∷ [], one_added _ _ _ _ _ c.loop-word.invariant _ _ (found (goal.at.returns-in_default c).After-split_at) _ _ c.in_ok-push.ensures.items),
)

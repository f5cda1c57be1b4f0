use Rattle.std.proofs.Common.{◌+◌, ◌⊎◌, arith}
use Rattle.std.proofs.lemmas.Result.{MatchResult-from_err}
use Rattle.atoms.specs.Atoms.{Exactly}
use Rattle.atoms.specs.Drafts.{first, Covers}
use Rattle.atoms.specs.Entries.{set_at}
use Rattle.atoms.proofs.Dividing.{Among, Turn, kept_covers, kept_crowded, next_covers, only, only_with, new_with, new_without}
use Rattle.atoms.proofs.split.divide.Given as given
use Rattle.atoms.proofs.split.divide.Goals as goal
use Rattle.atoms.proofs.split.divide.Goals.{After-with, In_ok-keep}

turn : (g : given.Over) (c : After-with g) → Turn (g.K.LabelKind.book c.args.kind.now).meaning c.args.g c.args.whole.now c.loop-atom.atom-index c.with.result.0
turn g c = record { small = c.requires.small; gathered = c.requires.gathered; within = c.loop-atom-test.true; put = c.with.ensures }

pub keep-requires-clause-only : goal.keep-requires-clause-only
keep-requires-clause-only g c = only_with (turn g (goal.at.keep-requires-clause-only g c).After-with)

pub keep-requires-in-loop-atom-clause-only : goal.keep-requires-in-loop-atom-clause-only
keep-requires-in-loop-atom-clause-only g c = λ h up. only (turn g (goal.at.keep-requires-in-loop-atom-clause-only g c).After-with) h (omega arith)

pub returns-in_err-keep : goal.returns-in_err-keep
returns-in_err-keep g c =
    let m = (g.K.LabelKind.book c.args.kind.now).meaning in
    MatchResult-from_err c.from_residual.result _ _ c.from_residual.ensures.0
    (λ _. kept_crowded m (c.args.g + 1) c.with.result.0 c.loop-atom.parts c.keep.new.parts (new_with (turn g (goal.at.returns-in_err-keep g c).After-with)) c.loop-atom.invariant _ c.in_err-keep.ensures)

-- after the atom with the guard
half : (g : given.Over) (c : In_ok-keep g) → Turn (g.K.LabelKind.book c.args.kind.now).meaning c.args.g c.args.whole.now c.loop-atom.atom-index c.with.result.0 → Covers (first (c.args.g + 1) (g.K.LabelKind.book c.args.kind.now).meaning) (λ x. Among (first c.args.g (g.K.LabelKind.book c.args.kind.now).meaning) c.args.whole.now c.loop-atom.atom-index x ⊎ Exactly (first (c.args.g + 1) (g.K.LabelKind.book c.args.kind.now).meaning) c.with.result.0 x) c.keep.new.parts.items
half g c t = kept_covers c.loop-atom.parts c.keep.new.parts c.with.result.0 (new_with t) c.loop-atom.invariant _ c.in_ok-keep.ensures

pub returns-in_err-keep-2 : goal.returns-in_err-keep-2
returns-in_err-keep-2 g c =
    let m = (g.K.LabelKind.book c.args.kind.now).meaning in
    let at = goal.at.returns-in_err-keep-2 g c in
    let t = turn g at.After-with in
    MatchResult-from_err c.from_residual-in_err-keep-2.result _ _ c.from_residual-in_err-keep-2.ensures.0
    (λ _. kept_crowded m (c.args.g + 1) (set_at c.args.whole.now c.loop-atom.atom-index) c.keep.new.parts c.keep-in-loop-atom.new.parts (new_without t) (half g at.In_ok-keep t) _ c.in_err-keep-2.ensures)

pub loop-atom-preserved : goal.loop-atom-preserved
loop-atom-preserved g c =
    let at = goal.at.loop-atom-preserved g c in
    let t = turn g at.After-with in
    next_covers t _ (kept_covers c.keep.new.parts c.keep-in-loop-atom.new.parts (set_at c.args.whole.now c.loop-atom.atom-index) (new_without t) (half g at.In_ok-keep t) _ c.in_ok-keep-2.ensures)

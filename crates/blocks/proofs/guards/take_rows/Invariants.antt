use Rattle.std.proofs.Common.{◌-◌, ◌≤◌, map, length, drop}
use Rattle.text.specs.Tokens.{sign_of}
use Rattle.blocks.proofs.Reading.{Sofar}
use Rattle.blocks.proofs.guards.take_rows.Given as goal

abbrev pub invariant-loop-at : goal.invariant-loop-at
invariant-loop-at g l = (l.at ≤ length l.tokens) × Sofar g.K.Readable.format (g.K.LabelKind.book l.initial.kind).meaning (map sign_of l.tokens) (g.K.LabelKind.book l.kind) (map sign_of (drop l.at l.tokens))

abbrev pub decreases-loop-at : goal.decreases-loop-at
decreases-loop-at g l = length l.tokens - l.at

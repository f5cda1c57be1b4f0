use Rattle.std.proofs.Common.{◌≡◌, ℕ, ◌≤◌, length, take}
use Rattle.labels.specs.Ranges.{covered}
use Rattle.labels.specs.Sets.{has}
use Rattle.labels.proofs.code_points.CodePoints.guards_at.Given as goal

abbrev pub invariant-loop-given : goal.invariant-loop-given
invariant-loop-given l = record {
  within : l.given-index ≤ length l.given-items;
  so_far : (g : ℕ) → has l.set.0 g ≡ covered (take l.given-index l.given-items) g l.x;
}

-- Remembered combinations in cells of 16 bits: three for each number, left, right and label; 65535 for an absent child.
use Rattle.std.specs.Prelude.{ℕ, ◌+◌, ◌*◌, cond, List, ◌==◌, slice_index}
use Rattle.trees.specs.Rounds.{Combination, nullary, unary, binary}

abbrev pub combination : ℕ → ℕ → ℕ → Combination
combination l r a = cond (l == 65535) (nullary a) (cond (r == 65535) (unary l a) (binary l r a))

abbrev pub first_at : List ℕ → ℕ → Combination
first_at cells k = combination (slice_index cells (3 * k)) (slice_index cells (3 * k + 1)) (slice_index cells (3 * k + 2))

-- Trees as lists of nodes.
use Rattle.std.specs.Prelude.{ℕ, zero, suc, ◌<◌, ◌≤◌, List, length, slice_index_or}
use Rattle.trees.specs.Rounds.{Combination, nullary, unary, binary, Below}
use Rattle.bench.specs.declared.node.Node.{Node}

-- a node with so many children as a line: label, left, right
abbrev pub line_of : ℕ → ℕ → ℕ → ℕ → Combination
line_of zero x p q = nullary x
line_of (suc zero) x p q = unary p x
line_of (suc (suc n)) x p q = binary p q x

abbrev pub line : Node → Combination
line node = line_of node.children node.label node.left node.right

abbrev pub no_node : Node
no_node = record { label = 0; children = 0; left = 0; right = 0 }

abbrev pub node_at : List Node → ℕ → Node
node_at nodes k = slice_index_or nodes k no_node

abbrev pub line_at : List Node → ℕ → Combination
line_at nodes k = line (node_at nodes k)

abbrev pub Counted : List Node → Type 0
Counted nodes = (1 ≤ length nodes) × (length nodes ≤ 1024)

-- at most two children, and they are earlier
abbrev pub Shaped : ℕ → Node → Type 0
Shaped k node = (node.children ≤ 2) × Below k (line node)

abbrev pub ShapedTo : List Node → ℕ → Type 0
ShapedTo nodes k = Shaped k (node_at nodes k)

abbrev pub AllShaped : List Node → Type 0
AllShaped nodes = (k : ℕ) → k < length nodes → ShapedTo nodes k

-- i is the first of n of which P does not hold
pub record FirstNot (P : ℕ → Type 0) (n i : ℕ) : Type 0 where
  pub within : i < n
  pub before : (k : ℕ) → k < i → P k
  pub here : P i → ⊥

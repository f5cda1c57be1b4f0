-- Whether a shelf accepts a tree of labels.
use Rattle.std.specs.Prelude.{◌≡◌, ℕ, ◌-◌, ◌<◌, ◌≤◌, Bool, List, length, Ok, Err, Result}
use Rattle.labels.specs.Meaning.{Meaning}
use Rattle.atoms.specs.Atoms.{Exactly}
use Rattle.atoms.specs.Entries.{set_at}
use Rattle.atoms.specs.declared.atom.Atom.{Atom}
use Rattle.trees.specs.Trees.{Tree, leaf, one, two}
use Rattle.trees.specs.Automata.{Automaton}
use Rattle.trees.specs.Lines.{Stands}
use Rattle.bench.specs.Benches.{shelves_in, HasShelf, automaton_at}
use Rattle.bench.specs.Nodes.{node_at, line_at, Counted, ShapedTo, AllShaped, FirstNot}
use Rattle.bench.specs.Lookups.{Known}
use Rattle.bench.specs.declared.node.Node.{Node}
use Rattle.bench.specs.declared.refusal.Refusal.{Refusal}
use Rattle.bench.specs.declared.refusal.Refusal.TheVariants.{WorkspaceTooShort, NoSuchShelf, TooManyRules, RuleOutOfShape, TooManySets, TooManyClasses, NodeListTooShort, NodeCount, NodeOutOfShape, UnknownLabel}

-- The automaton reads each label as its atom, and gives the root the state s.
abbrev pub Runs : Meaning → List Atom → ℕ → Automaton → Tree → ℕ → Type 0
Runs m xs n A (leaf x) s = (k : ℕ) × (k < n) × Exactly m (set_at xs k) x × (A.none k ≡ s)
Runs m xs n A (one x t) s = (k : ℕ) × (k < n) × Exactly m (set_at xs k) x × (p : ℕ) × Runs m xs n A t p × (A.single p k ≡ s)
Runs m xs n A (two x t u) s = (k : ℕ) × (k < n) × Exactly m (set_at xs k) x × (p : ℕ) × (q : ℕ) × Runs m xs n A t p × Runs m xs n A u q × (A.double p q k ≡ s)

abbrev pub KnownTo : Meaning → List Atom → ℕ → List Node → ℕ → Type 0
KnownTo m xs n nodes k = Known m xs n (node_at nodes k).label

-- the tree that node k stands for has the state s
pub record HasState (m : Meaning) (xs : List Atom) (n : ℕ) (A : Automaton) (nodes : List Node) (k s : ℕ) : Type 0 where
  pub tree : Tree
  pub stands : Stands (line_at nodes) k tree
  pub runs : Runs m xs n A tree s

-- the state of the last node, or the refusal of the first node whose label is not known
abbrev pub Roots : Meaning → List Atom → ℕ → Automaton → List Node → Result ℕ Refusal → Type 0
Roots m xs n A nodes (Ok s) = (s < A.size) × ((j : ℕ) → j < length nodes → KnownTo m xs n nodes j) × HasState m xs n A nodes (length nodes - 1) s
Roots m xs n A nodes (Err e) = (i : ℕ) × (e ≡ UnknownLabel i) × FirstNot (KnownTo m xs n nodes) (length nodes) i

-- whether shelf k accepts the tree that the last node stands for, or the first check that fails
abbrev pub Tests : Meaning → List Atom → ℕ → List ℕ → ℕ → List Node → Result Bool Refusal → Type 0
Tests m xs n bytes k nodes (Ok b) = HasShelf bytes k × Counted nodes × AllShaped nodes × ((j : ℕ) → j < length nodes → KnownTo m xs n nodes j) × (s : ℕ) × HasState m xs n (automaton_at bytes k) nodes (length nodes - 1) s × (b ≡ (automaton_at bytes k).accepts s)
Tests m xs n bytes k nodes (Err NoSuchShelf) = shelves_in (length bytes) ≤ k
Tests m xs n bytes k nodes (Err NodeCount) = HasShelf bytes k × (Counted nodes → ⊥)
Tests m xs n bytes k nodes (Err (NodeOutOfShape i)) = HasShelf bytes k × Counted nodes × FirstNot (ShapedTo nodes) (length nodes) i
Tests m xs n bytes k nodes (Err (UnknownLabel i)) = HasShelf bytes k × Counted nodes × AllShaped nodes × FirstNot (KnownTo m xs n nodes) (length nodes) i
Tests m xs n bytes k nodes (Err WorkspaceTooShort) = ⊥
Tests m xs n bytes k nodes (Err TooManyRules) = ⊥
Tests m xs n bytes k nodes (Err (RuleOutOfShape i)) = ⊥
Tests m xs n bytes k nodes (Err TooManySets) = ⊥
Tests m xs n bytes k nodes (Err TooManyClasses) = ⊥
Tests m xs n bytes k nodes (Err NodeListTooShort) = ⊥

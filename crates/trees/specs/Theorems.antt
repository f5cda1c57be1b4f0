-- The theorems that the schema engine stands on. Each is the contract of a function of the crate.
use Rattle.std.specs.Prelude.{◌≡◌, ℕ, ◌+◌, ◌<◌, ◌≤◌, Bool, true, ◌↔◌, List, ◌≢◌}
use Rattle.trees.specs.Trees.{Tree, height, Alphabet, Over, Language, Congruent}
use Rattle.trees.specs.Automata.{Automaton, Complete, For, Reachable, run, accepted}
use Rattle.trees.specs.Rounds.{Combination, Numbered}
use Rattle.trees.specs.Normal.{NormalForm, Same, Apart}
use Rattle.trees.specs.Rules.{Rule, CanHave, states}
use Rattle.trees.specs.Lines.{Stands, Ordered, Renumbered, rank}
use Rattle.trees.specs.Products.{Pairs, FirstSplit}
use Rattle.trees.specs.Classes.{Separate, Refines, Stable, Quotient}
use Rattle.trees.specs.Letters.{Atoms, by_atoms, Corresponds}

-- No automaton for a language has fewer states than its normal form.
abbrev pub FewestStates : Type 0
FewestStates = (σ : Alphabet) (L : Language) (A B : Automaton) → NormalForm σ L A → For σ L B → A.size ≤ B.size

-- Two normal forms of one language are equal.
abbrev pub OneNormalForm : Type 0
OneNormalForm = (σ : Alphabet) (L : Language) (A B : Automaton) → NormalForm σ L A → NormalForm σ L B → Same σ A B

-- The round of a state is the least height of a tree that has it, and some tree has that height: the one of the first
-- combinations.
pub record Shortest {σ : Alphabet} {A : Automaton} (n : Numbered σ A) (s : ℕ) : Type 0 where
  pub tree : Tree
  pub over : Over σ tree
  pub stands : Stands n.first s tree
  pub has : run A tree ≡ s
  pub high : height tree ≡ n.round s
  pub least : (t : Tree) → Over σ t → run A t ≡ s → n.round s ≤ height t

abbrev pub RoundsAreHeights : Type 0
RoundsAreHeights = (σ : Alphabet) (A : Automaton) → Complete σ A → (n : Numbered σ A) (s : ℕ) → s < A.size → Shortest n s

-- the alphabet has labels below some number only
abbrev pub Finite : Alphabet → Type 0
Finite σ = (m : ℕ) × ((k a : ℕ) → σ k a ≡ true → a < m)

-- Over a finite alphabet, and where the language has an automaton: there are n + 1 trees no two of which are congruent,
-- exactly if every automaton for the language has more than n states.
abbrev pub ApartNeedsStates : Type 0
ApartNeedsStates = (σ : Alphabet) (L : Language) (A : Automaton) (n : ℕ) → Finite σ → For σ L A → Apart σ L (n + 1) ↔ ((B : Automaton) → For σ L B → n < B.size)

-- Numbering by rounds is unique: two numberings that put the same trees together are equal, whatever their states stand for.
pub record SameNumbering {σ : Alphabet} {A B : Automaton} (m : Numbered σ A) (n : Numbered σ B) : Type 0 where
  pub size : A.size ≡ B.size
  pub runs : (t : Tree) → Over σ t → run A t ≡ run B t
  pub firsts : (s : ℕ) → s < A.size → m.first s ≡ n.first s
  pub rounds : (s : ℕ) → s < A.size → m.round s ≡ n.round s

abbrev pub OneNumbering : Type 0
OneNumbering = (σ : Alphabet) (A B : Automaton) → Complete σ A → Complete σ B → (m : Numbered σ A) (n : Numbered σ B) → ((t u : Tree) → Over σ t → Over σ u → (run A t ≡ run A u) ↔ (run B t ≡ run B u)) → SameNumbering m n

-- So the pairs of two automata have one numbering.
pub record SamePairs {σ : Alphabet} {A B P Q : Automaton} (p : Pairs σ A B P) (q : Pairs σ A B Q) : Type 0 where
  pub numbering : SameNumbering p.numbered q.numbered
  pub lefts : (i : ℕ) → i < P.size → p.left i ≡ q.left i
  pub rights : (i : ℕ) → i < P.size → p.right i ≡ q.right i

abbrev pub OnePairing : Type 0
OnePairing = (σ : Alphabet) (A B P Q : Automaton) (p : Pairs σ A B P) (q : Pairs σ A B Q) → SamePairs p q

-- Refining keeps congruent trees together,
abbrev pub RefinedClasses : Type 0
RefinedClasses = (σ : Alphabet) (A : Automaton) (class finer : ℕ → ℕ) → Complete σ A → Separate σ A class → Refines σ A class finer → Separate σ A finer

abbrev pub SeparateClasses : Type 0
SeparateClasses = (σ : Alphabet) (L : Language) (A : Automaton) (class : ℕ → ℕ) → For σ L A → Reachable σ A → Separate σ A class → (t u : Tree) → Over σ t → Over σ u → Congruent σ L t u → class (run A t) ≡ class (run A u)

-- and when nothing tells two states of a class apart, the classes numbered by rounds are the normal form.
abbrev pub StableClasses : Type 0
StableClasses = (σ : Alphabet) (L : Language) (A B : Automaton) (class : ℕ → ℕ) → For σ L A → Reachable σ A → Separate σ A class → Stable σ A class → Quotient σ A class B → Numbered σ B → NormalForm σ L B

-- The set of states of a tree, worked out bottom-up, holds exactly the states that the root can have by the rules.
abbrev pub SetsByRules : Type 0
SetsByRules = (rs : List Rule) (t : Tree) (s : ℕ) → (states rs t s ≡ true) ↔ CanHave rs t s

-- No pair is split exactly if the two accept the same trees; the first split pair's tree is accepted by just one of them, and
-- no such tree is shorter.
abbrev pub NoSplit : Type 0
NoSplit = (σ : Alphabet) (A B P : Automaton) (pairs : Pairs σ A B P) → ((i : ℕ) → i < P.size → A.accepts (pairs.left i) ≡ B.accepts (pairs.right i)) ↔ ((t : Tree) → Over σ t → accepted A t ≡ accepted B t)

pub record TellsApart {σ : Alphabet} {A B P : Automaton} (pairs : Pairs σ A B P) (i : ℕ) : Type 0 where
  pub tree : Tree
  pub over : Over σ tree
  pub stands : Stands pairs.numbered.first i tree
  pub high : height tree ≡ pairs.numbered.round i
  pub left : run A tree ≡ pairs.left i
  pub right : run B tree ≡ pairs.right i
  pub one : accepted A tree ≡ accepted B tree → ⊥
  pub shortest : (t : Tree) → Over σ t → (accepted A t ≢ accepted B t) → height tree ≤ height t

abbrev pub FirstSplitTells : Type 0
FirstSplitTells = (σ : Alphabet) (A B P : Automaton) (pairs : Pairs σ A B P) (i : ℕ) → FirstSplit pairs i → TellsApart pairs i

-- Lines that use only lines before them stand for one tree each;
abbrev pub OneTree : Type 0
OneTree = (n : ℕ) (lines : ℕ → Combination) → Ordered n lines → (k : ℕ) → k < n → (t : Tree) × Stands lines k t × ((u : Tree) → Stands lines k u → u ≡ t)

-- the lines that one leads back to, numbered anew in their order, stand for the same tree, that one being the last.
pub record SameTree (lines : ℕ → Combination) (root : ℕ) (kept : ℕ → Bool) (anew : ℕ → Combination) : Type 0 where
  pub last : rank kept (root + 1) ≡ rank kept root + 1
  pub ordered : Ordered (rank kept (root + 1)) anew
  pub stands : (t : Tree) → Stands lines root t → Stands anew (rank kept root) t

abbrev pub LinesAnew : Type 0
LinesAnew = (lines : ℕ → Combination) (root : ℕ) (kept : ℕ → Bool) (anew : ℕ → Combination) → Ordered (root + 1) lines → Renumbered lines root kept anew → SameTree lines root kept anew

-- Numbered over atoms is numbered over labels, and a normal form over atoms is one over labels.
abbrev pub NumberedOverLabels : Type 0
NumberedOverLabels = (σ τ : Alphabet) (atom label : ℕ → ℕ) (A : Automaton) → Atoms σ τ atom label → Complete τ A → Numbered τ A → Numbered σ (by_atoms atom A)

abbrev pub NormalOverLabels : Type 0
NormalOverLabels = (σ τ : Alphabet) (atom label : ℕ → ℕ) (L M : Language) (A : Automaton) → Atoms σ τ atom label → Corresponds σ atom L M → NormalForm τ L A → NormalForm σ M (by_atoms atom A)

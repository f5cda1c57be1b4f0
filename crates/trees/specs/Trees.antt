-- Trees of labels. A node carries one label and has no child, one child, or a left and a right one.
use Rattle.std.specs.Prelude.{◌≡◌, ℕ, ◌+◌, max, Bool, true, nat_lt}

pub data Tree : Type 0 where
  leaf : ℕ → Tree
  one : ℕ → Tree → Tree
  two : ℕ → Tree → Tree → Tree

abbrev pub height : Tree → ℕ
height (leaf a) = 1
height (one a t) = height t + 1
height (two a t u) = max (height t) (height u) + 1

-- A ranked alphabet: whether a node with k children may carry the label a, as σ k a.
abbrev pub Alphabet : Type 0
Alphabet = ℕ → ℕ → Bool

-- the alphabet of the numbers below n, each of which may stand on any node
abbrev pub letters : ℕ → Alphabet
letters n k a = nat_lt a n

-- every label of the tree may stand where it stands
abbrev pub Over : Alphabet → Tree → Type 0
Over σ (leaf a) = σ 0 a ≡ true
Over σ (one a t) = (σ 1 a ≡ true) × Over σ t
Over σ (two a t u) = (σ 2 a ≡ true) × Over σ t × Over σ u

-- A tree with one place left open, for a tree to be put there.
pub data Context : Type 0 where
  place : Context
  below : ℕ → Context → Context
  left_of : ℕ → Context → Tree → Context
  right_of : ℕ → Tree → Context → Context

abbrev pub plug : Context → Tree → Tree
plug place t = t
plug (below a c) t = one a (plug c t)
plug (left_of a c u) t = two a (plug c t) u
plug (right_of a u c) t = two a u (plug c t)

-- every label of the context may stand where it stands
abbrev pub Around : Alphabet → Context → Type 0
Around σ place = Unit {0}
Around σ (below a c) = (σ 1 a ≡ true) × Around σ c
Around σ (left_of a c u) = (σ 2 a ≡ true) × Around σ c × Over σ u
Around σ (right_of a u c) = (σ 2 a ≡ true) × Over σ u × Around σ c

-- which trees belong to it; only trees over the alphabet in question count
abbrev pub Language : Type 0
Language = Tree → Bool

-- Putting one for the other at a node of any tree never changes whether that tree belongs to the language:
-- the congruence of Myhill and Nerode.
abbrev pub Congruent : Alphabet → Language → Tree → Tree → Type 0
Congruent σ L t u = (c : Context) → Around σ c → L (plug c t) ≡ L (plug c u)

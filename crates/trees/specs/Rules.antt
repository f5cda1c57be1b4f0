-- Schemas: guarded rules that give nodes their states, and the states that accept.
use Rattle.std.specs.Prelude.{◌≡◌, ℕ, Bool, true, false, ◌&&◌, ◌||◌, List, [], ◌∷◌, ◌==◌}
use Rattle.std.specs.List.{ContainsAt as Has}
use Rattle.trees.specs.Trees.{Tree, leaf, one, two}

-- A node with so many children, in these states, and a label that the guards admit can have the rule's state. The state of
-- an absent child is not looked at.
pub record Rule : Type 0 where
  pub children : ℕ
  pub left : ℕ
  pub right : ℕ
  pub admits : ℕ → Bool
  pub state : ℕ

-- by some rule the root can have the state s
abbrev pub CanHave : List Rule → Tree → ℕ → Type 0
CanHave rs (leaf a) s = (r : Rule) × Has rs r × (r.children ≡ 0) × (r.admits a ≡ true) × (r.state ≡ s)
CanHave rs (one a t) s = (r : Rule) × Has rs r × (r.children ≡ 1) × (r.admits a ≡ true) × (r.state ≡ s) × CanHave rs t r.left
CanHave rs (two a t u) s = (r : Rule) × Has rs r × (r.children ≡ 2) × (r.admits a ≡ true) × (r.state ≡ s) × CanHave rs t r.left × CanHave rs u r.right

-- the root can have an accepting state
abbrev pub Accepts : List Rule → (ℕ → Bool) → Tree → Type 0
Accepts rs accepting t = (s : ℕ) × (accepting s ≡ true) × CanHave rs t s

-- ---- sets of states, worked out bottom-up

abbrev pub States : Type 0
States = ℕ → Bool

-- the states that some rule with a fitting test gives
abbrev pub given : (Rule → Bool) → List Rule → States
given test [] s = false
given test (r ∷ rs) s = (test r && r.state == s) || given test rs s

abbrev pub of_none : List Rule → ℕ → States
of_none rs a = given (λ r. (r.children == 0) && r.admits a) rs

abbrev pub of_single : List Rule → States → ℕ → States
of_single rs p a = given (λ r. (r.children == 1) && (r.admits a && p r.left)) rs

abbrev pub of_double : List Rule → States → States → ℕ → States
of_double rs p q a = given (λ r. (r.children == 2) && (r.admits a && (p r.left && q r.right))) rs

abbrev pub states : List Rule → Tree → States
states rs (leaf a) = of_none rs a
states rs (one a t) = of_single rs (states rs t) a
states rs (two a t u) = of_double rs (states rs t) (states rs u) a

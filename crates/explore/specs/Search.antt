-- How the code holds a search: things in a numbering, and their first combinations in cells.
use Rattle.std.specs.Prelude.{◌≡◌, ℕ, ◌+◌, ◌<◌, ◌≤◌, ◌⊎◌, List, length, None, Ok, Err, Result, slice_index_or, slice_set}
use Rattle.trees.specs.Rounds.{Combination, nullary, unary, binary}
use Rattle.explore.specs.Steps.{Steps, apply}
use Rattle.explore.specs.Firsts.{first_at}
use Rattle.explore.specs.Numbers.{At, Finds}
use Rattle.explore.specs.Rounds.{InRound, Found, MoreThan, Remembers, Room, entry_at}
use Rattle.explore.specs.declared.full.Full.{Full}
use Rattle.explore.specs.declared.numbering.Numbering.{Numbering}
use Rattle.explore.specs.declared.rounds.Round.{Round}
use Rattle.explore.specs.declared.trying.Children.{Children}

-- ---- children, and whose turn it is

-- the combination of the label and the children
abbrev pub over : Children → ℕ → Combination
over Children.None a = nullary a
over (Children.One p) a = unary p a
over (Children.Two p q) a = binary p q a

-- how many children there are, and the numbers of their things
abbrev pub count : Children → ℕ
count Children.None = 0
count (Children.One p) = 1
count (Children.Two p q) = 2

abbrev pub left : Children → ℕ
left Children.None = 0
left (Children.One p) = p
left (Children.Two p q) = p

abbrev pub right : Children → ℕ
right Children.None = 0
right (Children.One p) = 0
right (Children.Two p q) = q

-- one child at least was found in the last round
abbrev pub Turn : Round → Children → Type 0
Turn r Children.None = Unit {0}
Turn r (Children.One p) = (r.old ≤ p) × (p < r.start)
Turn r (Children.Two p q) = (p < r.start) × (q < r.start) × ((r.old ≤ p) ⊎ (r.old ≤ q))

-- what is given for each label is what the label and the children lead to
abbrev pub LeadsTo : {E : Type 0} → Steps E → Numbering E → Children → (ℕ → E → Type 0) → Type 0
LeadsTo {E} S s c gives = (a : ℕ) (e : E) → a < S.atoms → gives a e → e ≡ apply S (entry_at S s.entries.now) (over c a)

-- ---- one combination

-- things found stay as they are, in the same places
pub record Grows {E : Type 0} (s t : Numbering E) : Type 0 where
  pub long : length t.entries.now ≡ length s.entries.now
  pub more : s.len ≤ t.len
  pub kept : (k : ℕ) (d : E) → k < s.len → slice_index_or t.entries.now k d ≡ slice_index_or s.entries.now k d
  pub lent : t.entries.ghost_name ≡ s.entries.ghost_name

-- The combination c, which leads to e, is tried: e has a number already, or gets the next one and c is remembered for it;
-- refused where there is no place. Things s and cells before; t and after.
abbrev pub Tries : {E : Type 0} → Numbering E → List ℕ → Combination → E → Result (Unit {0}) Full → Numbering E → List ℕ → Type 0
Tries s cells c e (Ok done) t after = (((k : ℕ) × (k < s.len) × At s.entries.now k e × (t.entries.now ≡ s.entries.now) × (t.len ≡ s.len) × (after ≡ cells)) ⊎ (Finds s.entries.now s.len e None × (s.len < length s.entries.now) × (t.entries.now ≡ slice_set s.entries.now s.len e) × (t.len ≡ s.len + 1) × Remembers cells s.len c after)) × Grows s t
Tries s cells c e (Err full) t after = Finds s.entries.now s.len e None × (s.len ≡ length s.entries.now)

-- ---- one position after another

-- there is room, and the next combination to try has so many children, p and q, and the label a
pub record Stands {E : Type 0} (S : Steps E) (s : Numbering E) (cells : List ℕ) (r : Round) (children p q a : ℕ) : Type 0 where
  pub room : Room s.entries.now cells
  pub at : InRound S (entry_at S s.entries.now) (first_at cells) s.len r.old r.start children p q a

-- from s to the position, with t and the cells; or there are more things than places
abbrev pub GoesOn : {E : Type 0} → Steps E → Numbering E → Round → Result (Unit {0}) Full → Numbering E → List ℕ → (children p q a : ℕ) → Type 0
GoesOn S s r (Ok done) t cells children p q a = Stands S t cells r children p q a × Grows s t
GoesOn S s r (Err full) t cells children p q a = MoreThan (length s.entries.now) S

-- all things are found; or there are more than places
abbrev pub Explores : {E : Type 0} → Steps E → Numbering E → Result (Unit {0}) Full → Numbering E → List ℕ → Type 0
Explores S s (Ok done) t cells = Found S (entry_at S t.entries.now) (first_at cells) t.len × Grows s t
Explores S s (Err full) t cells = MoreThan (length s.entries.now) S

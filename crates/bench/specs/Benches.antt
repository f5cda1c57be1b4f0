-- The shelves of a bench, in the bytes that it is lent.
use Rattle.std.specs.Prelude.{◌≡◌, ℕ, ◌*◌, ◌/◌, ◌<◌, ◌≤◌, min, List, length, take, drop, slice_index}
use Rattle.trees.specs.Automata.{Automaton}
use Rattle.bench.specs.Shelves.{automaton, Sound, Fresh}

-- how many shelves n bytes have place for, 8 at most
abbrev pub shelves_in : ℕ → ℕ
shelves_in n = min 8 (n / 16945)

-- the bytes have a shelf k
abbrev pub HasShelf : List ℕ → ℕ → Type 0
HasShelf bs k = k < shelves_in (length bs)

-- the bytes of shelf k
abbrev pub shelf_at : List ℕ → ℕ → List ℕ
shelf_at bs k = take 16945 (drop (k * 16945) bs)

-- the automaton that shelf k keeps
abbrev pub automaton_at : List ℕ → ℕ → Automaton
automaton_at bs k = automaton (shelf_at bs k)

-- every shelf is sound over n atoms
abbrev pub AllSound : ℕ → List ℕ → Type 0
AllSound n bs = (k : ℕ) → HasShelf bs k → ∥ Sound n (shelf_at bs k) ∥₁

-- these are the bytes of shelf k
pub record Stored (n : ℕ) (bytes : List ℕ) (k : ℕ) (bs : List ℕ) : Type 0 where
  pub on : HasShelf bytes k
  pub same : bs ≡ shelf_at bytes k
  pub long : length bs ≡ 16945
  pub sound : ∥ Sound n bs ∥₁

-- every shelf is fresh, and what lies past the last is as it was
pub record Opened (before after : List ℕ) : Type 0 where
  pub long : length after ≡ length before
  pub fresh : (k : ℕ) → HasShelf before k → Fresh (shelf_at after k)
  pub beyond : (j : ℕ) → shelves_in (length before) * 16945 ≤ j → slice_index after j ≡ slice_index before j

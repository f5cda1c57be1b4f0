-- The atoms of a guard book ("minterms" in the literature), and the list of them all.
use Rattle.std.specs.Prelude.{◌≡◌, ℕ, ◌<◌, ◌≤◌, true, List}
use Rattle.labels.specs.Meaning.{Meaning}
use Rattle.labels.specs.Sets.{has}
use Rattle.atoms.specs.Entries.{label_at, set_at}
use Rattle.atoms.specs.declared.atom.Atom.{Atom}

-- x is a label, and the guards of the set s are exactly those that hold of it
pub record Exactly (m : Meaning) (s x : ℕ) : Type 0 where
  pub label : m.label x ≡ true
  pub guards : (g : ℕ) → has s g ≡ m.holds g x

-- x is the least label of the atom s
pub record IsAtom (m : Meaning) (s x : ℕ) : Type 0 where
  pub exact : Exactly m s x
  pub least : (y : ℕ) → Exactly m s y → x ≤ y

-- the first n of xs are all the atoms, each once and with its label, by rising label
pub record Lists (m : Meaning) (xs : List Atom) (n : ℕ) : Type 0 where
  pub each : (k : ℕ) → k < n → IsAtom m (set_at xs k) (label_at xs k)
  pub rises : (i j : ℕ) → i < j → j < n → label_at xs i < label_at xs j
  pub whole : (x : ℕ) → m.label x ≡ true → (k : ℕ) × (k < n) × Exactly m (set_at xs k) x

-- the labels f 0 to f n, no two of which have the same guards
pub record MoreThan (n : ℕ) (m : Meaning) : Type 0 where
  pub at : ℕ → ℕ
  pub label : (k : ℕ) → k ≤ n → m.label (at k) ≡ true
  pub apart : (i j : ℕ) → i < j → j ≤ n → ((g : ℕ) → m.holds g (at i) ≡ m.holds g (at j)) → ⊥

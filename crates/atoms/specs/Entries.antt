-- Lists of atoms by their places.
use Rattle.std.specs.Prelude.{◌≡◌, ℕ, ◌<◌, ◌≤◌, true, List, Some, None, Option, ◌≢◌, slice_index_or}
use Rattle.labels.specs.Sets.{has}
use Rattle.atoms.specs.declared.atom.Atom.{Atom}

-- no guards, label 0: what stands in an unused entry
abbrev pub blank : Atom
blank = record { label = 0; guards = record { 0 = 0 } }

abbrev pub atom_at : List Atom → ℕ → Atom
atom_at xs k = slice_index_or xs k blank

abbrev pub label_at : List Atom → ℕ → ℕ
label_at xs k = (atom_at xs k).label

abbrev pub set_at : List Atom → ℕ → ℕ
set_at xs k = (atom_at xs k).guards.0

-- n atoms, at least one, by rising label, no two with one set, which has only the guards below g
pub record Sound (xs : List Atom) (n g : ℕ) : Type 0 where
  pub some : 0 < n
  pub few : g ≤ 32
  pub rises : (i j : ℕ) → i < j → j < n → label_at xs i < label_at xs j
  pub apart : (i j : ℕ) → i < j → j < n → set_at xs i ≢ set_at xs j
  pub known : (k h : ℕ) → g ≤ h → has (set_at xs k) h ≢ true

-- one atom, without guards and with label 0; no guards; every other entry zero
pub record Unwritten (xs : List Atom) (n g : ℕ) : Type 0 where
  pub count : n ≡ 1
  pub guards : g ≡ 0
  pub labels : (k : ℕ) → label_at xs k ≡ 0
  pub sets : (k : ℕ) → set_at xs k ≡ 0

-- the k-th of n atoms, or none past the last
abbrev pub AtomAt : List Atom → ℕ → ℕ → Option Atom → Type 0
AtomAt xs n k None = n ≤ k
AtomAt xs n k (Some a) = (k < n) × (a ≡ atom_at xs k)

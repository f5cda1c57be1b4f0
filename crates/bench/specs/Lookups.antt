-- The atom of a label in a table of atoms, which need not be the table of the label's kind.
use Rattle.std.specs.Prelude.{ℕ, ◌<◌, List, Some, None, Option}
use Rattle.labels.specs.Meaning.{Meaning}
use Rattle.atoms.specs.Atoms.{Exactly}
use Rattle.atoms.specs.Entries.{set_at}
use Rattle.atoms.specs.declared.atom.Atom.{Atom}

-- x is a label, and of the first n atoms one has exactly the guards that hold of it
abbrev pub Known : Meaning → List Atom → ℕ → ℕ → Type 0
Known m xs n x = (k : ℕ) × (k < n) × Exactly m (set_at xs k) x

abbrev pub Names : Meaning → List Atom → ℕ → ℕ → Option ℕ → Type 0
Names m xs n x None = Known m xs n x → ⊥
Names m xs n x (Some k) = (k < n) × Exactly m (set_at xs k) x

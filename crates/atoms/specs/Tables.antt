-- The table of a guard book's atoms.
use Rattle.std.specs.Prelude.{◌≡◌, ℕ, ◌≤◌, Ok, Err, Result}
use Rattle.labels.specs.Meaning.{Meaning}
use Rattle.atoms.specs.Atoms.{Lists, MoreThan}
use Rattle.atoms.specs.Entries.{label_at, set_at}
use Rattle.atoms.specs.declared.fault.TooManyAtoms.{TooManyAtoms}
use Rattle.atoms.specs.declared.table.AtomTable.{AtomTable}

-- the table is exactly the atoms of m; unused entries are zero
pub record TableOf (m : Meaning) (t : AtomTable) : Type 0 where
  pub lists : Lists m t.atoms t.count
  pub guards : t.guards ≡ m.guards
  pub unlabelled : (k : ℕ) → t.count ≤ k → label_at t.atoms k ≡ 0
  pub unguarded : (k : ℕ) → t.count ≤ k → set_at t.atoms k ≡ 0

-- the table t before, and u after; refused exactly when there are more than 16 atoms
abbrev pub Reads : Meaning → AtomTable → Result (ℕ × ℕ) TooManyAtoms → AtomTable → Type 0
Reads m t (Ok r) u = TableOf m u × (r.0 ≡ u.count) × (r.1 ≡ u.guards) × (MoreThan 16 m → ⊥)
Reads m t (Err fault) u = MoreThan 16 m × (u ≡ t)

-- the number of the refusal
abbrev pub number_of : TooManyAtoms → ℕ
number_of fault = 20

-- How the atoms are found: guard by guard, in any order.
use Rattle.std.specs.Prelude.{◌≡◌, ℕ, ◌&&◌, ◌⊎◌, true, List, [], ◌∷◌, ◌++◌, All, AllPairs, Contains, Ok, Err, Result, MatchResult, ◌≢◌, nat_lt}
use Rattle.arrayvec.specs.ArrayVec.{ArrayVec, array_vec_len}
use Rattle.labels.specs.Meaning.{Meaning}
use Rattle.atoms.specs.Atoms.{Exactly, IsAtom, Lists, MoreThan}
use Rattle.atoms.specs.declared.atom.Atom.{Atom}
use Rattle.atoms.specs.declared.fault.TooManyAtoms.{TooManyAtoms}

-- the kind with only its first n guards
abbrev pub first : ℕ → Meaning → Meaning
first n m = record { label = m.label; guards = n; holds = λ g x. nat_lt g n && m.holds g x }

-- xs are the atoms of the labels in D, each once and with its label
pub record Covers (m : Meaning) (D : ℕ → Type 0) (xs : List Atom) : Type 0 where
  pub each : All (λ a. IsAtom m a.guards.0 a.label) xs
  pub inside : All (λ a. D a.label) xs
  pub apart : AllPairs (λ a b. a.label ≢ b.label) xs
  pub whole : (x : ℕ) → m.label x ≡ true → D x → (a : Atom) × Contains xs a × Exactly m a.guards.0 x

-- all atoms of the kind with only its first n guards, or more than 16 of the kind itself
abbrev pub Gathers : ℕ → Meaning → Result (ArrayVec Atom) TooManyAtoms → Type 0
Gathers n m r = MatchResult r (λ d. Covers (first n m) (λ x. Unit {0}) d.items) (λ fault. MoreThan 16 m)

-- all atoms by rising label, or more than 16
abbrev pub Finds : Meaning → Result (ArrayVec Atom) TooManyAtoms → Type 0
Finds m r = MatchResult r (λ d. Lists m d.items (array_vec_len d)) (λ fault. MoreThan 16 m)

abbrev pub atom_of : ℕ → ℕ → Atom
atom_of x s = record { label = x; guards = record { 0 = s } }

-- the atom of the set s joins the draft, where there is a label for it and a place
abbrev pub Keeps : Meaning → ℕ → ArrayVec Atom → Result (Unit {0}) TooManyAtoms → ArrayVec Atom → Type 0
Keeps m s d (Ok done) e = (((x : ℕ) → Exactly m s x → ⊥) × (e ≡ d)) ⊎ ((x : ℕ) × IsAtom m s x × (e.items ≡ d.items ++ atom_of x s ∷ []))
Keeps m s d (Err fault) e = (x : ℕ) × IsAtom m s x × (array_vec_len d ≡ 16)

-- A label's atom is the one with the set of the guards that hold of it.
use Rattle.std.proofs.Common.{◌≡◌, ℕ, ◌<◌, true, List, Some, None, Option, sym, ap, ◌∙◌, MatchOption}
use Rattle.labels.specs.Meaning.{Meaning}
use Rattle.labels.specs.Sets.{has}
use Rattle.labels.proofs.Bits.{same_by_bits}
use Rattle.atoms.specs.Entries.{set_at}
use Rattle.atoms.specs.declared.atom.Atom.{Atom}
use Rattle.bench.specs.Lookups.{Names}

module _ (m : Meaning) (xs : List Atom) (n x s : ℕ) (label : m.label x ≡ true) (exact : (g : ℕ) → has s g ≡ m.holds g x) where
  pub found_names : (r : Option ℕ) → MatchOption r ((k : ℕ) → k < n → set_at xs k ≡ s → ⊥) (λ k. (k < n) × (set_at xs k ≡ s)) → Names m xs n x r
  found_names None h = λ known. h known.0 known.1 (same_by_bits (set_at xs known.0) s (λ g. known.2.guards g ∙ sym (exact g)))
  found_names (Some k) h = (h.0, record { label = label; guards = λ g. ap (λ t. has t g) h.1 ∙ exact g })

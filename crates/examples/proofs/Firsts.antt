-- The atoms of a meaning by the set of the guards of each label.
use Rattle.std.proofs.Common.{◌≡◌, ℕ, ◌+◌, ◌<◌, true, All, List, map, length, get_or, sym, refl, ap, ◌∙◌, subst, ⊎_elim, arith}
use Rattle.std.proofs.lemmas.List.FromFn.{get_or-map-range_with_len, fill_by_all}
use Rattle.std.proofs.lemmas.List.Kept.{AllPairs-from_increasing}
use Rattle.std.proofs.lemmas.Simd.{map-map}
use Rattle.std.proofs.lemmas.Bool.{cases_lt}
use Rattle.std.specs.List.{range_with_len}
use Rattle.std.specs.List.Sorted.{IsStrictlyIncreasing}
use Rattle.labels.specs.Meaning.{Meaning}
use Rattle.labels.specs.Sets.{has}
use Rattle.labels.proofs.Bits.{same_by_bits}
use Rattle.atoms.specs.Atoms.{IsAtom, Lists, MoreThan}
use Rattle.atoms.specs.Drafts.{atom_of}
use Rattle.atoms.specs.Entries.{blank, atom_at, label_at}
use Rattle.atoms.specs.declared.atom.Atom.{Atom}
use Rattle.examples.specs.Examples.{atoms_with, Holds}

-- the set of the guards that hold of each label
abbrev pub Sets : Meaning → (ℕ → ℕ) → Type 0
Sets m set_of = (x : ℕ) → m.label x ≡ true → (g : ℕ) → has (set_of x) g ≡ m.holds g x

-- the labels at 0 to at (n - 1) rise, and each is the first with its set
pub record Firsts (m : Meaning) (set_of at : ℕ → ℕ) (n : ℕ) : Type 0 where
  pub label : (k : ℕ) → k < n → m.label (at k) ≡ true
  pub rises : (i j : ℕ) → i < j → j < n → at i < at j
  pub first : (k y : ℕ) → k < n → y < at k → set_of y ≡ set_of (at k) → ⊥

-- each label has the set of one of them
abbrev pub Whole : Meaning → (ℕ → ℕ) → (ℕ → ℕ) → ℕ → Type 0
Whole m set_of at n = (x : ℕ) → m.label x ≡ true → (k : ℕ) × (k < n) × (set_of x ≡ set_of (at k))

module _ (m : Meaning) (set_of at : ℕ → ℕ) (sets : Sets m set_of) where
  pub more_than : (n : ℕ) → Firsts m set_of at (n + 1) → MoreThan n m
  more_than n f = record {
    at = at;
    label = λ k h. f.label k (omega arith);
    apart = λ i j l h same.
        f.first j (at i) (omega arith) (f.rises i j l (omega arith))
        (same_by_bits _ _ (λ g. sets (at i) (f.label i (omega arith)) g ∙ same g ∙ sym (sets (at j) (f.label j (omega arith)) g)));
  }

  abbrev atom : ℕ → Atom
  atom k = atom_of (at k) (set_of (at k))

  module _ (n : ℕ) (f : Firsts m set_of at n) (whole : Whole m set_of at n) where
    abbrev found : List Atom
    found = map atom (range_with_len 0 n)

    at_place : (k : ℕ) → k < n → atom_at found k ≡ atom k
    at_place k h = get_or-map-range_with_len atom 0 n k k blank h (omega arith)

    is_atom : (k : ℕ) → k < n → IsAtom m (set_of (at k)) (at k)
    is_atom k h = record {
      exact = record { label = f.label k h; guards = sets (at k) (f.label k h) };
      least = λ y e. ⊎_elim (λ l. absurd (f.first k y h l (same_by_bits _ _ (λ g. sets y e.label g ∙ sym (e.guards g))))) (λ l. l) (cases_lt y (at k));
    }

    lists : Lists m found n
    lists = record {
      each = λ k h. subst (λ (a : Atom). IsAtom m a.guards.0 a.label) (sym (at_place k h)) (is_atom k h);
      rises = λ i j l h.
          let left : label_at found i ≡ at i = ap (λ (a : Atom). a.label) (at_place i (omega arith)) in
          let right : label_at found j ≡ at j = ap (λ (a : Atom). a.label) (at_place j h) in
          omega (arith, f.rises i j l h);
      whole = λ x e.
          let w = whole x e in
          (w.0, w.1, record { label = e; guards = λ g. ap (λ (a : Atom). has a.guards.0 g) (at_place w.0 w.1) ∙ ap (λ s. has s g) (sym w.2) ∙ sets x e g });
    }

    pub all_atoms : (xs : List Atom) × Lists m xs n × (map (λ (a : Atom). a.label) xs ≡ map at (range_with_len 0 n))
    all_atoms = (found, lists, map-map (λ (a : Atom). a.label) atom (range_with_len 0 n))

-- ---- labels that are written out

-- a label, and the first with its set
abbrev pub IsFirst : Meaning → (ℕ → ℕ) → ℕ → Type 0
IsFirst m set_of x = (m.label x ≡ true) × ((y : ℕ) → y < x → set_of y ≡ set_of x → ⊥)

pub listed : (m : Meaning) (set_of : ℕ → ℕ) → Sets m set_of → (xs : List ℕ) → IsStrictlyIncreasing xs → All (IsFirst m set_of) xs → Whole m set_of (λ k. get_or xs k 0) (length xs) → Holds (atoms_with m xs)
listed m set_of sets xs rising firsts whole =
    let at : ℕ → ℕ = λ k. get_or xs k 0 in
    let found = all_atoms m set_of at sets (length xs) (record {
      label = λ k h. (firsts k 0 h).0;
      rises = λ i j. AllPairs-from_increasing xs rising i j 0;
      first = λ k y h. (firsts k 0 h).1 y;
    }) whole in
    (found.0, found.1, found.2 ∙ sym (fill_by_all at xs (length xs) 0 refl (λ k h. refl)))

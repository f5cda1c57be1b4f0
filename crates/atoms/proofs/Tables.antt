-- What a list of all atoms gives the table that holds it.
use Rattle.std.proofs.Common.{◌≡◌, ℕ, zero, suc, ◌+◌, ◌-◌, ◌<◌, ◌≤◌, List, [], ◌∷◌, ◌++◌, refl, eqb, map, get_or, length, All, sym, ap, ◌∙◌, subst, ⊎_elim, arith}
use Rattle.std.proofs.lemmas.List.{get_or_past, get_or_append_left, get_or-append_right}
use Rattle.std.proofs.lemmas.Bool.{both_ways, cases_lt, eqb-true, ne_eqb}
use Rattle.std.proofs.lemmas.List.Folds.{Any-from_list_any}
use Rattle.std.proofs.lemmas.List.FromFn.{get_or-map-range_with_len, length-map-range_with_len}
use Rattle.std.proofs.lemmas.Map.Keys.{IsDistinct-from_apart}
use Rattle.std.proofs.lemmas.Map.Steps.{length-le_from_distinct_below}
use Rattle.std.specs.List.{range_with_len}
use Rattle.labels.specs.Meaning.{Meaning, Lawful}
use Rattle.labels.specs.Sets.{has}
use Rattle.labels.proofs.Bits.{has_none}
use Rattle.atoms.specs.Atoms.{Exactly, IsAtom, Lists, MoreThan}
use Rattle.atoms.specs.Entries.{blank, atom_at, label_at, set_at, Sound}
use Rattle.atoms.specs.declared.atom.Atom.{Atom}
use Rattle.atoms.proofs.Covering.{same_label}

-- blank atoms after a list change none of its entries
pub padded : (xs ys : List Atom) → All (λ a. a ≡ blank) ys → (k : ℕ) → atom_at (xs ++ ys) k ≡ atom_at xs k
padded xs ys blanks k =
    ⊎_elim
    (λ inside. get_or_append_left xs ys blank k inside)
    (λ past. get_or-append_right xs ys (length xs) k blank refl past ∙ ⊎_elim (blanks (k - length xs) blank) (get_or_past ys (k - length xs) blank) (cases_lt (k - length xs) (length ys)) ∙ sym (get_or_past xs k blank past))
    (cases_lt k (length xs))

pub is_blank : (a : Atom) → (a.label ≡ 0) × (a.guards.0 ≡ 0) → a ≡ blank
is_blank a zeros = λ i. record { label = zeros.0 i; guards = record { 0 = zeros.1 i } }

no_guards : (a : Atom) → a.guards.0 ≡ 0 → (k : ℕ) → set_at (a ∷ []) k ≡ 0
no_guards a none zero = none
no_guards a none (suc k) = refl

pub one_sound : (a : Atom) → a.guards.0 ≡ 0 → Sound (a ∷ []) 1 0
one_sound a none = record {
  some = omega arith;
  few = omega arith;
  rises = λ i j l h. absurd (omega arith);
  apart = λ i j l h e. omega arith;
  known = λ k g up e. both_ways _ (ap (λ s. has s g) (no_guards a none k) ∙ has_none g) e;
}

-- lists with the same entries
module _ (xs ys : List Atom) (same : (k : ℕ) → atom_at ys k ≡ atom_at xs k) where
  label_same : (k : ℕ) → label_at ys k ≡ label_at xs k
  label_same k = ap (λ (a : Atom). a.label) (same k)

  set_same : (k : ℕ) → set_at ys k ≡ set_at xs k
  set_same k = ap (λ (a : Atom). a.guards.0) (same k)

  pub sound_same : {n g : ℕ} → Sound xs n g → Sound ys n g
  sound_same s = record {
    some = s.some;
    few = s.few;
    rises = λ i j l h. omega (arith, s.rises i j l h, label_same i, label_same j);
    apart = λ i j l h e. s.apart i j l h (sym (set_same i) ∙ e ∙ set_same j);
    known = λ k h up e. s.known k h up (ap (λ t. has t h) (sym (set_same k)) ∙ e);
  }

  pub lists_same : {m : Meaning} {n : ℕ} → Lists m xs n → Lists m ys n
  lists_same {m} l = record {
    each = λ k h. subst (λ (a : Atom). IsAtom m a.guards.0 a.label) (sym (same k)) (l.each k h);
    rises = λ i j lt h. omega (arith, l.rises i j lt h, label_same i, label_same j);
    whole = λ x e. let found = l.whole x e in (found.0, found.1, subst (λ (a : Atom). Exactly m a.guards.0 x) (sym (same found.0)) found.2);
  }

module _ (m : Meaning) (law : Lawful m) (xs : List Atom) (l : Lists m xs (length xs)) where
  pub lists_sound : Sound xs (length xs) m.guards
  lists_sound = record {
    some = let found = l.whole law.some.0 law.some.1 in let lt = found.1 in omega arith;
    few = law.few;
    rises = l.rises;
    apart = λ i j lt h e. omega (arith, l.rises i j lt h, same_label m _ _ _ _ (l.each i (omega arith)) (l.each j h) e);
    known = λ k h up e.
        ⊎_elim
        (λ lt. let inside = (law.inside h (label_at xs k) (sym ((l.each k lt).exact.guards h) ∙ e)).0 in omega arith)
        (λ past. both_ways (has (set_at xs k) h) (ap (λ (a : Atom). has a.guards.0 h) (get_or_past xs k blank past) ∙ has_none h) e)
        (cases_lt k (length xs));
  }

  module _ (count : ℕ) (le : length xs ≤ count) (more : MoreThan count m) where
    -- the place of each of the labels
    spot : (k : ℕ) → (j : ℕ) × (k ≤ count → (j < length xs) × Exactly m (set_at xs j) (more.at k))
    spot k =
        ⊎_elim
        (λ lt. let found = l.whole (more.at k) (more.label k (omega arith)) in (found.0, λ h. (found.1, found.2)))
        (λ past. (0, λ h. absurd (omega arith)))
        (cases_lt k (count + 1))

    -- no more labels than places are pairwise apart
    pub not_more : ⊥
    not_more =
        let place : ℕ → ℕ = λ k. (spot k).0 in
        let places = map place (range_with_len 0 (count + 1)) in
        let long = length-map-range_with_len place 0 (count + 1) in
        let at : (k d : ℕ) → k < length places → get_or places k d ≡ place k = λ k d h. get_or-map-range_with_len place 0 (count + 1) k k d (omega arith) (omega arith) in
        let held : (k : ℕ) → k < length places → (place k < length xs) × Exactly m (set_at xs (place k)) (more.at k) = λ k h. (spot k).1 (omega arith) in
        let distinct = IsDistinct-from_apart eqb places (λ i j d lt h. ne_eqb _ _ (λ e.
        let same = sym (at i d (omega arith)) ∙ e ∙ at j d h in
        more.apart i j lt (omega arith) (λ g. sym ((held i (omega arith)).1.guards g) ∙ ap (λ k. has (set_at xs k) g) same ∙ (held j h).1.guards g))) in
        let few = length-le_from_distinct_below places (length xs) distinct (λ q listed.
        let a = Any-from_list_any (eqb q) places listed in
        omega (arith, eqb-true q a.1 a.4, a.3, at a.0 a.1 a.2, (held a.0 a.2).0)) in
        omega arith

-- A list of atoms that covers the labels of some domain, and what one atom more makes of it.
use Rattle.std.proofs.Common.{◌≡◌, ℕ, ◌<◌, ◌≤◌, ◌&&◌, eqb, ltb, ◌⊎◌, List, [], ◌∷◌, ◌++◌, length, map, get_or, ◌≢◌, sym, ap, ◌∙◌, subst, inl, inr, ⊎_elim, arith}
use Rattle.std.specs.Cmp.{nat_eq_equiv}
use Rattle.std.specs.List.{IsDistinct}
use Rattle.std.specs.List.Sorted.{IsPermutation, IsNonDecreasingBy}
use Rattle.std.proofs.lemmas.List.{get_or-map, length-map}
use Rattle.std.proofs.lemmas.Bool.{eqb-false, ne_eqb}
use Rattle.std.proofs.lemmas.List.Elements.{All-nil, All-push, Contains-append_left, Contains-push, at_from_Contains}
use Rattle.std.proofs.lemmas.List.Sorted.{All-permutation, Contains-permutation, IsPermutation-map}
use Rattle.std.proofs.lemmas.Map.Keys.{IsDistinct-IsPermutation, IsDistinct-from_apart, apart_from_distinct}
use Rattle.std.proofs.lemmas.List.Quantifiers.{all_pairs_push}
use Rattle.labels.specs.Meaning.{Meaning}
use Rattle.atoms.specs.Atoms.{Exactly, IsAtom, Lists, MoreThan}
use Rattle.atoms.specs.Drafts.{Covers, first}
use Rattle.atoms.specs.Entries.{blank, label_at, set_at}
use Rattle.atoms.specs.declared.atom.Atom.{Atom}
use Rattle.atoms.proofs.Exactness.{same_set}

pub covers_none : (m : Meaning) → Covers m (λ x. ⊥) []
covers_none m = record { each = All-nil _; inside = All-nil _; apart = λ i j d l h. absurd (omega arith); whole = λ x e d. absurd d }

pub covers_same : {m : Meaning} {D E : ℕ → Type 0} {xs : List Atom} → ((x : ℕ) → D x → E x) → ((x : ℕ) → E x → D x) → Covers m D xs → Covers m E xs
covers_same {xs = xs} to from c = record { each = c.each; inside = λ k d h. to _ (c.inside k d h); apart = c.apart; whole = λ x e d. c.whole x e (from x d) }

-- two atoms with one set have one label
pub same_label : (m : Meaning) (s t x y : ℕ) → IsAtom m s x → IsAtom m t y → s ≡ t → x ≡ y
same_label m s t x y a b e =
    let up : x ≤ y = a.least y (subst (λ u. Exactly m u y) (sym e) b.exact) in
    let down : y ≤ x = b.least x (subst (λ u. Exactly m u x) e a.exact) in
    omega arith

module _ {m : Meaning} {D : ℕ → Type 0} {xs : List Atom} (c : Covers m D xs) where
  pub pushed_covers : (a : Atom) → IsAtom m a.guards.0 a.label → ((y : ℕ) → Exactly m a.guards.0 y → D y → ⊥) → Covers m (λ x. D x ⊎ Exactly m a.guards.0 x) (xs ++ a ∷ [])
  pushed_covers a atom new = record {
    each = All-push (λ b. IsAtom m b.guards.0 b.label) xs a c.each atom;
    inside = All-push (λ b. D b.label ⊎ Exactly m a.guards.0 b.label) xs a (λ k d h. inl (c.inside k d h)) (inr atom.exact);
    apart = all_pairs_push (λ b b'. b.label ≢ b'.label) xs a c.apart (λ k d h e. new (get_or xs k d).label (subst (Exactly m a.guards.0) (sym e) atom.exact) (c.inside k d h));
    whole = λ x l. ⊎_elim (λ d. let w = c.whole x l d in (w.0, Contains-append_left xs _ w.0 w.1, w.2)) (λ e. (a, Contains-push xs a, e));
  }

-- the labels of more than n atoms
pub crowded : (m : Meaning) (count n : ℕ) {D : ℕ → Type 0} {xs : List Atom} → Covers (first count m) D xs → n < length xs → MoreThan n m
crowded m count n {xs = xs} c long = record {
  at = label_at xs;
  label = λ k h. (c.each k blank (omega arith)).exact.label;
  apart = λ i j l h same.
      let here = c.each i blank (omega arith) in
      let there = c.each j blank (omega arith) in
      let both : Exactly (first count m) (set_at xs i) (label_at xs j) = record { label = there.exact.label; guards = λ g. here.exact.guards g ∙ ap (λ t. ltb g count && t) (same g) } in
      c.apart i j blank l (omega arith) (same_label (first count m) _ _ _ _ here there (same_set (first count m) _ _ (label_at xs j) both there.exact));
}

abbrev label_of : Atom → ℕ
label_of a = a.label

-- all atoms, put into the order of their labels
module _ {m : Meaning} {xs ys : List Atom} (c : Covers m (λ x. Unit {0}) xs) (moved : IsPermutation xs ys) where
  labels_apart : IsDistinct eqb (map label_of ys)
  labels_apart =
      let long = length-map xs label_of in
      let read : (k d : ℕ) → k < length xs → get_or (map label_of xs) k d ≡ label_at xs k = λ k d h. get_or-map label_of xs k blank d h in
      IsDistinct-IsPermutation eqb nat_eq_equiv.symm (map label_of xs) (map label_of ys) (IsPermutation-map label_of xs ys moved)
      (IsDistinct-from_apart eqb (map label_of xs) (λ i j d l h. ne_eqb _ _ (λ e. c.apart i j blank l (omega arith) (sym (read i d (omega arith)) ∙ e ∙ read j d (omega arith)))))

  pub sorted_lists : IsNonDecreasingBy label_of ys → Lists m ys (length ys)
  sorted_lists up = record {
    each = λ k h. All-permutation (λ a. IsAtom m a.guards.0 a.label) xs ys moved c.each k blank h;
    rises = λ i j l h.
        let long = length-map ys label_of in
        let le = up i j blank (omega arith) h in
        let ne = eqb-false _ _ (apart_from_distinct eqb (map label_of ys) i j 0 labels_apart l (omega arith)) in
        omega (arith, get_or-map label_of ys i blank 0 (omega arith), get_or-map label_of ys j blank 0 h);
    whole = λ x e.
        let w = c.whole x e tt in
        let at = at_from_Contains ys w.0 (Contains-permutation xs ys w.0 moved w.1) in
        (at.0, at.1, subst (λ (a : Atom). Exactly m a.guards.0 x) (sym (at.2 blank)) w.2);
  }

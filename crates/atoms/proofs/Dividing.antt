-- From the atoms of the first g guards to those of the first g + 1.
use Rattle.std.proofs.Common.{◌≡◌, ℕ, ◌+◌, ◌<◌, ◌≤◌, false, ◌&&◌, ◌||◌, eqb, ltb, ◌⊎◌, List, length, Ok, Err, sym, subst, inl, inr, ⊎_elim, arith}
use Rattle.std.proofs.lemmas.Bool.{cases_lt}
use Rattle.std.proofs.lemmas.List.{length_push}
use Rattle.arrayvec.specs.ArrayVec.{ArrayVec}
use Rattle.labels.specs.Meaning.{Meaning, Lawful}
use Rattle.labels.specs.Sets.{has}
use Rattle.atoms.specs.Atoms.{Exactly, MoreThan}
use Rattle.atoms.specs.Drafts.{Covers, Keeps, first, atom_of}
use Rattle.atoms.specs.Entries.{blank, label_at, set_at}
use Rattle.atoms.specs.declared.atom.Atom.{Atom}
use Rattle.atoms.specs.declared.fault.TooManyAtoms.{TooManyAtoms}
use Rattle.atoms.proofs.Covering.{covers_same, same_label, pushed_covers, crowded}
use Rattle.atoms.proofs.Exactness.{same_set, only_first, split_exact, exact_with, exact_without, with_or_without, with_only, exact_none_yet, exact_all, all_exact}

module _ {m : Meaning} {D : ℕ → Type 0} (d e : ArrayVec Atom) (s : ℕ) (new : (y : ℕ) → Exactly m s y → D y → ⊥) (c : Covers m D d.items) where
  pub kept_covers : (u : Unit {0}) → Keeps m s d (Ok u) e → Covers m (λ x. D x ⊎ Exactly m s x) e.items
  kept_covers u =
      ⊎_elim
      (λ k. subst (λ (b : ArrayVec Atom). Covers m (λ x. D x ⊎ Exactly m s x) b.items) (sym k.1) (covers_same (λ x. inl) (λ x. ⊎_elim (λ h. h) (λ h. absurd (k.0 x h))) c))
      (λ k. subst (Covers m (λ x. D x ⊎ Exactly m s x)) (sym k.2) (pushed_covers c (atom_of k.0 s) k.1 new))

pub kept_crowded : (m : Meaning) (count s : ℕ) {D : ℕ → Type 0} (d e : ArrayVec Atom) → ((y : ℕ) → Exactly (first count m) s y → D y → ⊥) → Covers (first count m) D d.items → (f : TooManyAtoms) → Keeps (first count m) s d (Err f) e → MoreThan 16 m
kept_crowded m count s d e new c f k = crowded m count 16 (pushed_covers c (atom_of k.0 s) k.1 new) (omega (arith, k.2, length_push d.items (atom_of k.0 s)))

-- the labels of the first i atoms of xs
abbrev pub Among : Meaning → List Atom → ℕ → ℕ → Type 0
Among m xs i x = (j : ℕ) × (j < i) × Exactly m (set_at xs j) x

-- the atom at i of those of the first g guards is divided: w is its set with the guard g
pub record Turn (b : Meaning) (g : ℕ) (xs : List Atom) (i w : ℕ) : Type 0 where
  pub small : g < 32
  pub gathered : Covers (first g b) (λ x. Unit {0}) xs
  pub within : i < length xs
  pub put : (h : ℕ) → has w h ≡ (has (set_at xs i) h || (eqb h g && ltb g 32))

module _ {b : Meaning} {g : ℕ} {xs : List Atom} {i w : ℕ} (t : Turn b g xs i w) where
  -- no label is of two atoms
  apart : (x : ℕ) → Exactly (first g b) (set_at xs i) x → Among (first g b) xs i x → ⊥
  apart x e among =
      let under = among.1 in
      let within = t.within in
      let same = same_set (first g b) (set_at xs among.0) (set_at xs i) x among.2 e in
      t.gathered.apart among.0 i blank under within (same_label (first g b) _ _ _ _ (t.gathered.each among.0 blank (omega arith)) (t.gathered.each i blank within) same)

  pub only : (h : ℕ) → g ≤ h → has (set_at xs i) h ≡ false
  only = only_first b g (set_at xs i) (label_at xs i) (t.gathered.each i blank t.within).exact

  pub only_with : (h : ℕ) → g + 1 ≤ h → has w h ≡ false
  only_with = with_only b g (set_at xs i) w t.small only t.put

  pub new_with : (x : ℕ) → Exactly (first (g + 1) b) w x → Among (first g b) xs i x → ⊥
  new_with x e = apart x (exact_with b g (set_at xs i) w t.small only t.put x e)

  pub new_without : (x : ℕ) → Exactly (first (g + 1) b) (set_at xs i) x → Among (first g b) xs i x ⊎ Exactly (first (g + 1) b) w x → ⊥
  new_without x e =
      ⊎_elim (apart x (exact_without b g (set_at xs i) w t.small only t.put x e)) (λ f. with_or_without b g (set_at xs i) w t.small only t.put x f e)

  to_next : (x : ℕ) → (Among (first g b) xs i x ⊎ Exactly (first (g + 1) b) w x) ⊎ Exactly (first (g + 1) b) (set_at xs i) x → Among (first g b) xs (i + 1) x
  to_next x =
      ⊎_elim
      (⊎_elim (λ a. (a.0, let lt = a.1 in omega arith, a.2)) (λ e. (i, omega arith, exact_with b g (set_at xs i) w t.small only t.put x e)))
      (λ e. (i, omega arith, exact_without b g (set_at xs i) w t.small only t.put x e))

  from_next : (x : ℕ) → Among (first g b) xs (i + 1) x → (Among (first g b) xs i x ⊎ Exactly (first (g + 1) b) w x) ⊎ Exactly (first (g + 1) b) (set_at xs i) x
  from_next x a =
      ⊎_elim (λ lt. inl (inl (a.0, lt, a.2)))
      (λ le.
      let lt = a.1 in
      let same : a.0 ≡ i = omega arith in
      ⊎_elim (λ e. inl (inr e)) inr (split_exact b g (set_at xs i) w t.small only t.put x (subst (λ j. Exactly (first g b) (set_at xs j) x) same a.2)))
      (cases_lt a.0 i)

  pub next_covers : (ys : List Atom) → Covers (first (g + 1) b) (λ x. (Among (first g b) xs i x ⊎ Exactly (first (g + 1) b) w x) ⊎ Exactly (first (g + 1) b) (set_at xs i) x) ys → Covers (first (g + 1) b) (Among (first g b) xs (i + 1)) ys
  next_covers ys = covers_same to_next from_next

-- the one atom among no guards
pub first_covers : (b : Meaning) (s : ℕ) (ys : List Atom) → ((g : ℕ) → has s g ≡ false) → Covers (first 0 b) (λ x. ⊥ ⊎ Exactly (first 0 b) s x) ys → Covers (first 0 b) (λ x. Unit {0}) ys
first_covers b s ys none c = record { each = c.each; inside = λ k a h. tt; apart = c.apart; whole = λ x e u. c.whole x e (inr (exact_none_yet b s x none e)) }

-- the atoms among all guards
pub last_covers : (b : Meaning) (ys : List Atom) → Lawful b → Covers (first b.guards b) (λ x. Unit {0}) ys → Covers b (λ x. Unit {0}) ys
last_covers b ys law c = record {
  each = λ k d h. let a = c.each k d h in record { exact = exact_all b law _ _ a.exact; least = λ y e. a.least y (all_exact b law _ y e) };
  inside = c.inside;
  apart = c.apart;
  whole = λ x e u. let found = c.whole x e tt in (found.0, found.1, exact_all b law _ x found.2);
}

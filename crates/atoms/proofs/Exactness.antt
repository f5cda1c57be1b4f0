-- Atoms among the first guards of a kind, and what one guard more makes of them.
use Rattle.std.proofs.Common.{◌≡◌, ℕ, ◌+◌, ◌<◌, ◌≤◌, true, false, ◌&&◌, ◌||◌, eqb, ltb, ◌⊎◌, sym, ◌∙◌, inl, inr, ⊎_elim, arith}
use Rattle.std.proofs.lemmas.Bool.{cases_Bool}
use Rattle.std.proofs.lemmas.Bool.Decides.{nat_tests}
use Rattle.labels.specs.Meaning.{Meaning, Lawful}
use Rattle.labels.specs.Sets.{has}
use Rattle.labels.proofs.Bits.{same_by_bits}
use Rattle.atoms.specs.Atoms.{Exactly}
use Rattle.atoms.specs.Drafts.{first}

-- two sets that are exact at one label are one set
pub same_set : (m : Meaning) (s t x : ℕ) → Exactly m s x → Exactly m t x → s ≡ t
same_set m s t x e f = same_by_bits s t (λ g. e.guards g ∙ sym (f.guards g))

-- an atom among the first n guards has no other guard
pub only_first : (m : Meaning) (n s x : ℕ) → Exactly (first n m) s x → (g : ℕ) → n ≤ g → has s g ≡ false
only_first m n s x e g up = grind (arith, nat_tests, e.guards g)

-- ---- one guard more: the atom s of the first g guards falls into w, with guard g, and s, without it

module _ (m : Meaning) (g s w : ℕ) (small : g < 32) (only : (h : ℕ) → g ≤ h → has s h ≡ false) (put : (h : ℕ) → has w h ≡ (has s h || (eqb h g && ltb g 32))) where
  pub with_only : (h : ℕ) → g + 1 ≤ h → has w h ≡ false
  with_only h up = grind (arith, nat_tests, put h, only h)

  pub split_exact : (x : ℕ) → Exactly (first g m) s x → Exactly (first (g + 1) m) w x ⊎ Exactly (first (g + 1) m) s x
  split_exact x e =
      ⊎_elim
      (λ on. inl (record { label = e.label; guards = λ h. grind (arith, nat_tests, put h, e.guards h, on) }))
      (λ off. inr (record { label = e.label; guards = λ h. grind (arith, nat_tests, e.guards h, off) }))
      (cases_Bool (m.holds g x))

  pub exact_with : (x : ℕ) → Exactly (first (g + 1) m) w x → Exactly (first g m) s x
  exact_with x e = record { label = e.label; guards = λ h. grind (arith, nat_tests, put h, only h, e.guards h) }

  pub exact_without : (x : ℕ) → Exactly (first (g + 1) m) s x → Exactly (first g m) s x
  exact_without x e = record { label = e.label; guards = λ h. grind (arith, nat_tests, only h, e.guards h) }

  pub with_or_without : (x : ℕ) → Exactly (first (g + 1) m) w x → Exactly (first (g + 1) m) s x → ⊥
  with_or_without x e f = grind (arith, nat_tests, put g, only g, e.guards g, f.guards g)

-- ---- no guard, and all guards

pub exact_none_yet : (m : Meaning) (s x : ℕ) → ((g : ℕ) → has s g ≡ false) → m.label x ≡ true → Exactly (first 0 m) s x
exact_none_yet m s x none label = record { label = label; guards = λ g. grind (arith, nat_tests, none g) }

module _ (m : Meaning) (law : Lawful m) where
  pub exact_all : (s x : ℕ) → Exactly (first m.guards m) s x → Exactly m s x
  exact_all s x e = record { label = e.label; guards = λ g. grind (arith, nat_tests, e.guards g, law.inside g x) }

  pub all_exact : (s x : ℕ) → Exactly m s x → Exactly (first m.guards m) s x
  all_exact s x e = record { label = e.label; guards = λ g. grind (arith, nat_tests, e.guards g, law.inside g x) }

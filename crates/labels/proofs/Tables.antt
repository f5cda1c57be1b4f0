-- A table of guard sets as a kind's meaning.
use Rattle.std.proofs.Common.{◌≡◌, ℕ, ◌<◌, ◌≤◌, Bool, false, ◌&&◌, ◌||◌, eqb, ltb, List, length, get_or, replicate, Some, None, Option, sym, refl, ap, ◌∙◌, ⊎_elim, arith}
use Rattle.std.proofs.lemmas.List.{get_or_past, get_or-replicate, length-replicate}
use Rattle.std.proofs.lemmas.Bool.{ltb-true, lt-ltb, and_parts, both_ways, cases_lt, and_right}
use Rattle.labels.proofs.Bits.{has_none}
use Rattle.labels.specs.Adding.{Joins}
use Rattle.labels.specs.Laws.{SetsBelow}
use Rattle.labels.specs.Meaning.{Meaning, Fits, IsLeast, Fresh}
use Rattle.labels.specs.Sets.{has, Between}
use Rattle.labels.specs.Tables.{empty, set_at, table_meaning}
use Rattle.labels.specs.declared.set.GuardSet.{GuardSet}

-- the first index at which the set has all of ins and none of outs, or none exactly if there is none
abbrev pub FirstFit : ℕ → ℕ → List GuardSet → Option ℕ → Type 0
FirstFit ins outs sets None = (k : ℕ) → k < length sets → Between ins outs (set_at sets k) → ⊥
FirstFit ins outs sets (Some i) = (i < length sets) × Between ins outs (set_at sets i) × ((k : ℕ) → k < i → Between ins outs (set_at sets k) → ⊥)

past_empty : (sets : List GuardSet) (x g : ℕ) → length sets ≤ x → has (set_at sets x) g ≡ false
past_empty sets x g past = ap (λ (s : GuardSet). has s.0 g) (get_or_past sets x empty past) ∙ has_none g

module _ (sets : List GuardSet) (n ins outs : ℕ) where
  fits_between : (x : ℕ) → Fits (table_meaning sets n) ins outs x → (x < length sets) × Between ins outs (set_at sets x)
  fits_between x f = (
    ltb-true x (length sets) f.label,
    record {
      every = λ g e. (and_parts (ltb x (length sets)) (has (set_at sets x) g) (f.every g e)).1;
      none = λ g e. sym (ap (λ b. b && has (set_at sets x) g) f.label) ∙ f.none g e;
    },
  )

  between_fits : (x : ℕ) → x < length sets → Between ins outs (set_at sets x) → Fits (table_meaning sets n) ins outs x
  between_fits x under b =
      let label = lt-ltb x (length sets) under in
      record {
        label = label;
        every = λ g e. ap (λ t. t && has (set_at sets x) g) label ∙ b.every g e;
        none = λ g e. ap (λ t. t && has (set_at sets x) g) label ∙ b.none g e;
      }

  pub table_least : (r : Option ℕ) → FirstFit ins outs sets r → IsLeast (table_meaning sets n) ins outs r
  table_least None h = λ x f. let b = fits_between x f in h x b.0 b.1
  table_least (Some i) h = (
    between_fits i h.0 h.1,
    λ y f. let b = fits_between y f in ⊎_elim (λ under. absurd (h.2 y under b.1)) (λ le. le) (cases_lt y i),
  )

-- no guard yet
none_at : (n x g : ℕ) → has (set_at (replicate n empty) x) g ≡ false
none_at n x g =
    ⊎_elim
    (λ under. ap (λ (s : GuardSet). has s.0 g) (get_or-replicate n x empty empty under) ∙ has_none g)
    (λ past. past_empty (replicate n empty) x g (omega (arith, length-replicate n empty)))
    (cases_lt x n)

pub fresh_known : (n : ℕ) → SetsBelow (replicate n empty) 0
fresh_known n x g up e = both_ways (has (set_at (replicate n empty) x) g) (none_at n x g) e

pub fresh_table : (n : ℕ) → Fresh (table_meaning (replicate n empty) 0) (λ x. ltb x n)
fresh_table n = record {
  label = λ x. ap (ltb x) (length-replicate n empty);
  guards = refl;
  holds = λ g x. and_right (ltb x (length (replicate n empty))) (has (set_at (replicate n empty) x) g) (none_at n x g);
}

-- guard g is joined at the labels of vs below i, and nothing is changed from i on
pub record MarkedTo (sets : List GuardSet) (g : ℕ) (vs : ℕ → Bool) (i : ℕ) (marked : List GuardSet) : Type 0 where
  pub long : length marked ≡ length sets
  pub done : (x h : ℕ) → x < i → x < length sets → has (set_at marked x) h ≡ (has (set_at sets x) h || (eqb h g && vs x))
  pub rest : (x : ℕ) → i ≤ x → get_or marked x empty ≡ get_or sets x empty

pub joins_same : {m n : Meaning} {g : ℕ} {vs ws : ℕ → Bool} → ((x : ℕ) → vs x ≡ ws x) → Joins m g vs n → Joins m g ws n
joins_same {m} {g = g} same j = record {
  label = j.label;
  guards = j.guards;
  holds = λ h x. j.holds h x ∙ ap (λ b. m.holds h x || (eqb h g && (m.label x && b))) (same x);
}

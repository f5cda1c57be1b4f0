-- The laws of the kinds, by what they keep.
use Rattle.std.proofs.Common.{◌≡◌, ℕ, suc, ◌^◌, ◌<◌, ◌≤◌, true, false, ◌&&◌, eqb, ltb, leb, List, [], ◌∷◌, length, refl, ⊎_elim, arith}
use Rattle.std.proofs.lemmas.Bool.{and_parts, both_ways, cases_lt, eqb-true, leb-true, lt-ltb, ltb-true, or_cases}
use Rattle.labels.specs.Meaning.{Lawful}
use Rattle.labels.specs.Ranges.{code_label, code_meaning, covered, given_at, in_range}
use Rattle.labels.specs.Sets.{has}
use Rattle.labels.specs.Tables.{set_at, table_meaning}
use Rattle.labels.specs.declared.range.Given.{Given}
use Rattle.labels.specs.declared.set.GuardSet.{GuardSet}

-- only guards below n have ranges
abbrev pub RangesBelow : List Given → ℕ → Type 0
RangesBelow rs n = (k : ℕ) → k < length rs → (given_at rs k).guard < n

covered_below : (rs : List Given) (n : ℕ) → RangesBelow rs n → (g x : ℕ) → covered rs g x ≡ true → g < n
covered_below [] n below g x h = absurd (both_ways false refl h)
covered_below (r ∷ rs) n below g x h =
    ⊎_elim
    (λ here. let same = eqb-true g r.guard (and_parts (eqb g r.guard) (in_range r.range x) here).0 in let low = below 0 (omega arith) in omega arith)
    (λ later. covered_below rs n (λ k l. below (suc k) (omega arith)) g x later)
    (or_cases (eqb g r.guard && in_range r.range x) (covered rs g x) h)

pub code_narrow : (x : ℕ) → code_label x ≡ true → x < 2 ^ 32
code_narrow x h = let top = leb-true x 0x10FFFF (and_parts (leb x 0x10FFFF) _ h).0 in omega arith

pub code_lawful : (rs : List Given) (n : ℕ) → n ≤ 32 → RangesBelow rs n → Lawful (code_meaning rs n)
code_lawful rs n few below = record {
  below = λ x h. let low = code_narrow x h in omega arith;
  some = (0, refl);
  few = few;
  inside = λ g x h. let parts = and_parts (code_label x) (covered rs g x) h in (covered_below rs n below g x parts.1, parts.0);
}

-- no guard from n on stands in the sets
abbrev pub SetsBelow : List GuardSet → ℕ → Type 0
SetsBelow sets n = (x g : ℕ) → n ≤ g → has (set_at sets x) g ≡ true → ⊥

module _ (sets : List GuardSet) (n : ℕ) {size : ℕ} (long : length sets ≡ size) (top : size ≤ 2 ^ 32) where
  pub table_narrow : (x : ℕ) → (table_meaning sets n).label x ≡ true → x < 2 ^ 32
  table_narrow x h = let under = ltb-true x (length sets) h in omega arith

  pub table_lawful : 0 < size → n ≤ 32 → SetsBelow sets n → Lawful (table_meaning sets n)
  table_lawful some few below = record {
    below = λ x h. let low = table_narrow x h in omega arith;
    some = (0, lt-ltb 0 (length sets) (omega arith));
    few = few;
    inside = λ g x h.
        let parts = and_parts (ltb x (length sets)) (has (set_at sets x) g) h in
        (⊎_elim (λ under. under) (λ up. absurd (below x g up parts.1)) (cases_lt g n), parts.0);
  }

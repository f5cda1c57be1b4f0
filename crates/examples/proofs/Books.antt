-- The guard books of the examples: the set of the guards of each label, and the first labels with their sets.
use Rattle.std.proofs.Common.{◌≡◌, ℕ, ◌+◌, ◌^◌, ◌<◌, ◌≤◌, Bool, true, false, cond, ◌&&◌, ◌||◌, eqb, ltb, List, [], ◌∷◌, map, length, get_or, sym, refl, ap, ◌∙◌, ap₂, ⊎_elim, arith}
use lib.Bits.{bit_or}
use Rattle.std.proofs.lemmas.List.FromFn.{get_or-map-range_with_len}
use Rattle.std.proofs.lemmas.Nat.{pow_pos, pow_below}
use Rattle.std.proofs.lemmas.Bool.{cases_lt, ltb-true, lt-ltb, le-ltb, cond-true, cond-false}
use Rattle.std.proofs.lemmas.Bool.Decides.{nat_tests}
use Rattle.std.proofs.lemmas.List.Elements.{All-from_recursion}
use Rattle.std.specs.List.Sorted.{IsStrictlyIncreasing}
use Rattle.std.specs.List.{range_with_len, AllByRecursion}
use Rattle.atoms.specs.Atoms.{Lists, MoreThan}
use Rattle.atoms.specs.declared.atom.Atom.{Atom}
use Rattle.labels.specs.Ranges.{code_meaning, covered, in_range}
use Rattle.labels.specs.Tables.{empty}
use Rattle.labels.specs.Sets.{has}
use Rattle.labels.specs.declared.range.Given.{Given}
use Rattle.labels.specs.declared.set.GuardSet.{GuardSet}
use Rattle.labels.proofs.Bits.{has_none, has_one, has_or}
use Rattle.examples.specs.Examples.{atoms_with, Holds, tag_meaning, own_guard}
use Rattle.examples.proofs.Firsts.{Sets, Firsts, Whole, more_than, all_atoms, IsFirst, listed}

-- guard h alone, or none
pub has_if : (b : Bool) (h g : ℕ) → has (cond b (2 ^ h) 0) g ≡ (eqb g h && b)
has_if true h g = has_one h g ∙ grind (arith, nat_tests)
has_if false h g = has_none g ∙ grind (arith, nat_tests)

-- ---- guards that are given ranges

-- the guards whose ranges have x
abbrev pub given_set : List Given → ℕ → ℕ
given_set [] x = 0
given_set (r ∷ rs) x = bit_or (cond (in_range r.range x) (2 ^ r.guard) 0) (given_set rs x)

covered_set : (rs : List Given) (x g : ℕ) → has (given_set rs x) g ≡ covered rs g x
covered_set [] x g = has_none g
covered_set (r ∷ rs) x g =
    has_or (cond (in_range r.range x) (2 ^ r.guard) 0) (given_set rs x) g
    ∙ ap₂ (λ a b. a || b) (has_if (in_range r.range x) r.guard g) (covered_set rs x g)

given_sets : (rs : List Given) (n : ℕ) → Sets (code_meaning rs n) (given_set rs)
given_sets rs n x e g = covered_set rs x g ∙ sym (ap (λ b. b && covered rs g x) e)

pub ranged : (rs : List Given) (n : ℕ) (xs : List ℕ) → IsStrictlyIncreasing xs → AllByRecursion (IsFirst (code_meaning rs n) (given_set rs)) xs → Whole (code_meaning rs n) (given_set rs) (λ k. get_or xs k 0) (length xs) → Holds (atoms_with (code_meaning rs n) xs)
ranged rs n xs rising firsts = listed (code_meaning rs n) (given_set rs) (given_sets rs n) xs rising (All-from_recursion (IsFirst (code_meaning rs n) (given_set rs)) xs firsts)

-- ---- guards of tags

pub tag_sets : (set_of : ℕ → ℕ) (n : ℕ) → Sets (tag_meaning set_of n) set_of
tag_sets set_of n x e g =
    let small = ltb-true x 64 e in
    let entry : ℕ → GuardSet = λ y. record { 0 = set_of y } in
    sym (ap₂ (λ b (s : GuardSet). b && has s.0 g) e (get_or-map-range_with_len entry 0 64 x x empty small (omega arith)))

module _ (n : ℕ) (small : n < 64) where
  guarded : (x : ℕ) → x < n → own_guard n x ≡ 2 ^ x
  guarded x h = cond-true (ltb x n) (2 ^ x) 0 (lt-ltb x n h)

  unguarded : (x : ℕ) → n ≤ x → own_guard n x ≡ 0
  unguarded x h = cond-false (ltb x n) (2 ^ x) 0 (le-ltb x n h)

  -- the tags 0 to n have sets of their own
  own_firsts : Firsts (tag_meaning (own_guard n) n) (own_guard n) (λ k. k) (n + 1)
  own_firsts = record {
    label = λ k h. lt-ltb k 64 (omega arith);
    rises = λ i j l h. l;
    first = λ k y h l e.
        let low = guarded y (omega arith) in
        ⊎_elim (λ u. omega (arith, guarded k u, pow_below y k l)) (λ u. omega (arith, unguarded k u, pow_pos y)) (cases_lt k n);
  }

  pub own_more : MoreThan n (tag_meaning (own_guard n) n)
  own_more = more_than (tag_meaning (own_guard n) n) (own_guard n) (λ k. k) (tag_sets (own_guard n) n) n own_firsts

  -- and those from n on have none
  pub own_atoms : (xs : List Atom) × Lists (tag_meaning (own_guard n) n) xs (n + 1) × (map (λ (a : Atom). a.label) xs ≡ map (λ k. k) (range_with_len 0 (n + 1)))
  own_atoms =
      all_atoms (tag_meaning (own_guard n) n) (own_guard n) (λ k. k) (tag_sets (own_guard n) n) (n + 1) own_firsts
      (λ x e. ⊎_elim (λ l. (x, omega arith, refl)) (λ l. (n, omega arith, unguarded x l ∙ sym (unguarded n (omega arith)))) (cases_lt x n))

-- Each example holds.
use Rattle.std.proofs.Common.{◌≡◌, ℕ, ◌+◌, ◌*◌, ◌^◌, ◌≤◌, true, cond, All, eqb, ltb, sym, refl, ◌∙◌, subst, arith}
use Rattle.std.proofs.lemmas.List.Elements.{All-from_recursion}
use Rattle.std.proofs.lemmas.Bool.{both_ways, eqb-true}
use Rattle.std.proofs.lemmas.Bool.Decides.{nat_tests}
use Rattle.labels.specs.Meaning.{Meaning, Fits}
use Rattle.labels.specs.Sets.{has}
use Rattle.labels.proofs.Bits.{has_none, has_one}
use Rattle.pairs.specs.Pairs.{first_of, second_of}
use Rattle.examples.specs.Examples.{Holds, surrogates, overlapping, tag_meaning, one_tag, code_and_tag, examples}
use Rattle.examples.proofs.Books.{has_if, ranged, tag_sets, own_atoms, own_more}

-- a label that guard 0 holds of fits where that is asked for, and nothing barred
fits_first : (m : Meaning) (x : ℕ) → m.label x ≡ true → m.holds 0 x ≡ true → Fits m 1 0 x
fits_first m x label holds = record {
  label = label;
  every = λ g e. subst (λ h. m.holds h x ≡ true) (sym (eqb-true g 0 (sym (has_one 0 g) ∙ e))) holds;
  none = λ g e. absurd (both_ways (has 0 g) (has_none g) e);
}

-- the parts of a label that guard 0 holds of are 65 and 3
pair_least : (y : ℕ) → Fits code_and_tag 1 0 y → 65 * 2 ^ 32 + 3 ≤ y
pair_least y f =
    let z = second_of y in
    let holds = f.every 0 (has_one 0 0) in
    let first : 65 ≤ first_of y = grind (arith, nat_tests) in
    let label : ltb z 64 ≡ true = grind (arith, nat_tests) in
    let tag : (tag_meaning (one_tag 3) 1).holds 0 z ≡ true = grind (arith, nat_tests) in
    let second = eqb-true z 3 (sym (has_if (eqb z 3) 0 0) ∙ tag_sets (one_tag 3) 1 z label 0 ∙ tag) in
    omega arith

pub all_hold : All Holds examples
unfolding has
all_hold = All-from_recursion Holds examples (
  ranged surrogates 1 _ (omega arith) ((refl, λ y l e. omega arith), tt) (λ x e. (0, omega arith, grind (arith, nat_tests))),
  (
    ranged overlapping 2 _ (λ k h. grind arith)
        ((refl, λ y l e. omega arith), ((refl, λ y l e. grind (arith, nat_tests)), ((refl, λ y l e. grind (arith, nat_tests)), ((refl, λ y l e. grind (arith, nat_tests)), tt))))
        -- from 97 on no guard holds, as below 65
        (λ x e. (cond (ltb x 65) 0 (cond (ltb x 80) 1 (cond (ltb x 91) 2 (cond (ltb x 97) 3 0))), grind (arith, nat_tests), grind (arith, nat_tests))),
    ((fits_first code_and_tag _ refl refl, pair_least), (own_atoms 15 (omega arith), (own_more 16 (omega arith), tt))),
  ),
)

-- The labels of a pair, and the law of its kind.
use Rattle.std.proofs.Common.{◌≡◌, ℕ, ◌+◌, ◌*◌, ◌^◌, ◌<◌, ◌≤◌, true, List, is_some, Some, None, Option, ◌≢◌, refl, arith}
use Rattle.std.proofs.lemmas.Nat.{div-mul-add, mod-mul-add}
use Rattle.std.proofs.lemmas.Grind.{common_steps}
use Rattle.std.proofs.lemmas.Bool.{and_parts}
use Rattle.labels.specs.Meaning.{Meaning, Lawful}
use Rattle.pairs.specs.Pairs.{pair_meaning, given_holds, first_of, second_of, value_at}
use Rattle.pairs.specs.declared.value.PairValue.{PairValue}

pub given_from_holds : (a b : Meaning) (o : Option PairValue) (x : ℕ) → given_holds a b o x ≡ true → is_some o ≡ true
given_from_holds a b None x h = h
given_from_holds a b (Some v) x h = refl

-- ---- a label of each part

module _ (p q : ℕ) (small : q < 2 ^ 32) where
  pub first_is : first_of (p * 2 ^ 32 + q) ≡ p
  first_is = div-mul-add p (2 ^ 32) q small

  pub second_is : second_of (p * 2 ^ 32 + q) ≡ q
  second_is = mod-mul-add p (2 ^ 32) q small

pub pair_lawful : (a b : Meaning) (vs : List (Option PairValue)) (n : ℕ) → Lawful a → Lawful b → ((x : ℕ) → a.label x ≡ true → x < 2 ^ 32) → ((x : ℕ) → b.label x ≡ true → x < 2 ^ 32) → n ≤ 32 → ((g : ℕ) → n ≤ g → is_some (value_at vs g) ≢ true) → Lawful (pair_meaning a b vs n)
pair_lawful a b vs n law law' narrow narrow' few known =
    let p = law.some.0 in
    let q = law'.some.0 in
    let small = narrow' q law'.some.1 in
    record {
      below = λ x h. let high = narrow (first_of x) (and_parts (a.label (first_of x)) (b.label (second_of x)) h).0 in omega arith;
      some = (p * 2 ^ 32 + q, simp (first_is p q small, second_is p q small, law.some.1, law'.some.1));
      few = few;
      inside = λ g x h.
          let given = given_from_holds a b (value_at vs g) x in
          (grind (arith, common_steps, known g, given), grind (arith, common_steps));
    }

-- A branch of the search: the labels of the two parts, and the label of the pair.
use Rattle.std.proofs.Common.{◌≡◌, ℕ, ◌+◌, ◌*◌, ◌^◌, ◌<◌, ◌≤◌, min, true, false, List, ◌⊎◌, Some, None, Option, sym, refl, ap, subst, inl, inr, ⊎_elim, arith, MatchOption}
use Rattle.std.proofs.lemmas.Nat.{div-add-mod'}
use mathlib.Core.Bool.{and-false}
use Rattle.std.proofs.lemmas.Grind.{common_steps}
use Rattle.std.proofs.lemmas.Bool.{cases_lt}
use Rattle.labels.specs.Meaning.{Meaning, Fits, IsLeast}
use Rattle.labels.specs.Sets.{has}
use Rattle.pairs.specs.Laws.{first_is, second_is}
use Rattle.pairs.specs.Pairs.{pair_meaning, given_holds, first_of, second_of, value_at}
use Rattle.pairs.specs.Search.{Seconds, Branch, Next, Searched}
use Rattle.pairs.specs.declared.pair.search.Path.{Path}
use Rattle.pairs.specs.declared.value.PairValue.{PairValue}

module _ (a b : Meaning) (vs : List (Option PairValue)) (n : ℕ) (p : Path) (branch : Branch vs p) (over : Next p.asked.0 p.next None) (s t : ℕ) (fors : Seconds vs p.yes.0 p.ins.0 s) (againsts : Seconds vs p.no.0 p.ins.0 t) where
  -- no first is still to be asked
  settled : (k : ℕ) → has p.asked.0 k ≡ true → (has p.ins.0 k ≡ true) ⊎ (has p.outs.0 k ≡ true)
  settled k h = ⊎_elim (branch.settles k h) (λ up. absurd (over k up h)) (cases_lt k p.next)

  -- the second part of a label that fits
  pub second_fits : (y : ℕ) → Fits a p.ins.0 p.outs.0 (first_of y) → Fits (pair_meaning a b vs n) p.yes.0 p.no.0 y → Fits b s t (second_of y)
  second_fits y f fit = record {
    label = grind (arith, common_steps, fit.label);
    every = λ k h.
        let from = fors.only k h in
        let holds = fit.every from.guard from.chosen in
        grind (arith, common_steps, from.given, from.is);
    none = λ k h.
        let from = againsts.only k h in
        let fails = fit.none from.guard from.chosen in
        let first = f.every from.value.first from.kept in
        grind (arith, common_steps, fit.label, from.given, from.is);
  }

  -- labels of the two parts that fit
  module _ (x q : ℕ) (narrow : q < 2 ^ 32) (f : Fits a p.ins.0 p.outs.0 x) (f' : Fits b s t q) where
    none_given : (g : ℕ) (o : Option PairValue) → has p.no.0 g ≡ true → value_at vs g ≡ o → given_holds a b o (x * 2 ^ 32 + q) ≡ false
    none_given g None chosen is = refl
    none_given g (Some v) chosen is =
        ⊎_elim
        (λ taken. let fails = f'.none v.second (againsts.every g v chosen is taken) in simp (first_is x q narrow, second_is x q narrow, fails, and-false))
        (λ left. let fails = f.none v.first left in simp (first_is x q narrow, second_is x q narrow, fails))
        (settled v.first (branch.asks.every g v chosen is refl))

    pub both_fit : Fits (pair_meaning a b vs n) p.yes.0 p.no.0 (x * 2 ^ 32 + q)
    both_fit = record {
      label = simp (first_is x q narrow, second_is x q narrow, f.label, f'.label);
      every = λ g chosen.
          let from = branch.takes g chosen in
          let here = f.every from.0.first from.2 in
          let there = f'.every from.0.second (fors.every g from.0 chosen from.1 from.2) in
          simp (from.1, first_is x q narrow, second_is x q narrow, f.label, f'.label, here, there);
      none = λ g chosen. simp (none_given g (value_at vs g) chosen refl, and-false);
    }

  -- the second part has a label: the lesser of it with x, and the best so far
  module _ (narrow : (k : ℕ) → b.label k ≡ true → k < 2 ^ 32) (x q : ℕ) (l : IsLeast a p.ins.0 p.outs.0 (Some x)) (l' : IsLeast b s t (Some q)) where
    least_below : (y : ℕ) → Fits a p.ins.0 p.outs.0 (first_of y) → Fits (pair_meaning a b vs n) p.yes.0 p.no.0 y → x * 2 ^ 32 + q ≤ y
    least_below y f fit =
        let low = l.1 (first_of y) f in
        let low' = l'.1 (second_of y) (second_fits y f fit) in
        omega (arith, div-add-mod' y (2 ^ 32))

    least_here : Fits a p.ins.0 p.outs.0 (first_of (x * 2 ^ 32 + q)) × Fits (pair_meaning a b vs n) p.yes.0 p.no.0 (x * 2 ^ 32 + q)
    least_here =
        let small' = narrow q l'.0.label in
        (subst (Fits a p.ins.0 p.outs.0) (sym (first_is x q small')) l.0, both_fit x q small' l.0 l'.0)

    pub end_searched : (best : Option ℕ) (r : ℕ) → MatchOption best (r ≡ x * 2 ^ 32 + q) (λ known. r ≡ min known (x * 2 ^ 32 + q)) → Searched (pair_meaning a b vs n) a p best (Some r)
    end_searched None r is = record {
      from = inr (x * 2 ^ 32 + q, ap Some is, least_here);
      less = λ y h. absurd h;
      all = λ y f. let low = least_below y f.0 f.1 in omega arith;
    }
    end_searched (Some known) r is = record {
      from =
          ⊎_elim
          (λ lt. let same : r ≡ known = omega arith in inl (ap Some same))
          (λ le. let same : r ≡ x * 2 ^ 32 + q = omega arith in inr (x * 2 ^ 32 + q, ap Some same, least_here))
          (cases_lt known (x * 2 ^ 32 + q));
      less = λ y h. omega arith;
      all = λ y f. let low = least_below y f.0 f.1 in omega arith;
    }

-- The branches of the search: the start, and one first more, taken in and then out.
use Rattle.std.proofs.Common.{◌≡◌, ℕ, ◌+◌, true, false, ◌&&◌, ◌||◌, eqb, ltb, List, is_some, Some, None, Option, sym, refl, ◌∙◌, subst, inl, inr, ⊎_elim, arith}
use Rattle.std.proofs.lemmas.Bool.{both_ways, cases_Bool, and_parts, or_cases, or_left, eqb-true}
use Rattle.labels.specs.Meaning.{Meaning, Fits}
use Rattle.labels.specs.Sets.{has}
use Rattle.pairs.specs.Pairs.{first_of, value_at}
use Rattle.pairs.specs.Search.{Given, Firsts, Branch, Searched}
use Rattle.labels.specs.declared.set.GuardSet.{GuardSet}
use Rattle.pairs.specs.declared.pair.search.Path.{Path}
use Rattle.pairs.specs.declared.value.PairValue.{PairValue}

-- ---- the start

the_value : (o : Option PairValue) → is_some o ≡ true → (v : PairValue) × (o ≡ Some v)
the_value None h = absurd (both_ways false refl h)
the_value (Some v) h = (v, refl)

pub start_branch : (vs : List (Option PairValue)) (p : Path) → p.next ≡ 0 → Given vs p.yes.0 → Firsts vs p.no.0 p.asked.0 → Firsts vs p.yes.0 p.ins.0 → Branch vs p
start_branch vs p first all asks takes = record {
  takes = λ g h. let v = the_value (value_at vs g) (all g h) in (v.0, v.1, takes.every g v.0 h v.1 refl);
  asks = asks;
  settles = λ k h less. absurd (omega arith);
}

-- ---- one first more

-- s with the number k is r
abbrev With : ℕ → ℕ → ℕ → Type 0
With s k r = (g : ℕ) → has r g ≡ (has s g || (eqb g k && ltb k 32))

module _ (s k r : ℕ) (joined : With s k r) where
  still : (g : ℕ) → has s g ≡ true → has r g ≡ true
  still g h = joined g ∙ or_left (has s g) (eqb g k && ltb k 32) h

  -- what holds at each number of s and at k holds at each number of r
  each : (P : ℕ → Type 0) → ((g : ℕ) → has s g ≡ true → P g) → P k → (g : ℕ) → has r g ≡ true → P g
  each P old here g h =
      ⊎_elim (old g)
      (λ e. subst P (sym (eqb-true g k (and_parts (eqb g k) (ltb k 32) e).0)) here)
      (or_cases (has s g) (eqb g k && ltb k 32) (sym (joined g) ∙ h))

-- both have been looked at
module _ (m a : Meaning) (p : Path) (k : ℕ) (ins' outs' : GuardSet) (joined : With p.ins.0 k ins'.0) (joined' : With p.outs.0 k outs'.0) where
  in_wider : (x : ℕ) → Fits a ins'.0 p.outs.0 x → Fits a p.ins.0 p.outs.0 x
  in_wider x f = record { label = f.label; every = λ g h. f.every g (still p.ins.0 k ins'.0 joined g h); none = f.none }

  out_wider : (x : ℕ) → Fits a p.ins.0 outs'.0 x → Fits a p.ins.0 p.outs.0 x
  out_wider x f = record { label = f.label; every = f.every; none = λ g h. f.none g (still p.outs.0 k outs'.0 joined' g h) }

  pub both_searched : (best found r : Option ℕ) → Searched m a (record p { next = k + 1; ins = ins' }) best found → Searched m a (record p { next = k + 1; outs = outs' }) found r → Searched m a p best r
  both_searched best found r one two = record {
    from =
        ⊎_elim
        (λ same. ⊎_elim (λ is. inl (same ∙ is)) (λ f. inr (f.0, same ∙ f.1, (in_wider (first_of f.0) f.2.0, f.2.1))) one.from)
        (λ f. inr (f.0, f.1, (out_wider (first_of f.0) f.2.0, f.2.1)))
        two.from;
    less = λ y h. two.less y (one.less y h);
    all = λ y f.
        ⊎_elim
        (λ holds. two.less y (one.all y (record { label = f.0.label; every = each p.ins.0 k ins'.0 joined (λ g. a.holds g (first_of y) ≡ true) f.0.every holds; none = f.0.none }, f.1)))
        (λ fails. two.all y (record { label = f.0.label; every = f.0.every; none = each p.outs.0 k outs'.0 joined' (λ g. a.holds g (first_of y) ≡ false) f.0.none fails }, f.1))
        (cases_Bool (a.holds k (first_of y)));
  }

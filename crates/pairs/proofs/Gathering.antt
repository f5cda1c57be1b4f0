-- The parts of the values of the first guards, one guard after another.
use Rattle.std.proofs.Common.{◌≡◌, ℕ, ◌+◌, ◌^◌, ◌<◌, ◌≤◌, Bool, true, false, ◌&&◌, ◌||◌, eqb, ltb, ◌≢◌, List, is_some, Some, None, Option, sym, refl, zero-add, ◌∙◌, subst, ⊎_elim, arith}
use Rattle.std.proofs.lemmas.Bool.{both_ways, cases_lt, or_cases}
use Rattle.std.proofs.lemmas.Bool.Decides.{nat_tests}
use Rattle.std.proofs.lemmas.Grind.{common_steps}
use Rattle.std.proofs.lemmas.List.FromFn.{get_or-range_with_len}
use Rattle.std.specs.Bool.{MatchBool, Decides}
use Rattle.std.specs.List.{AllWithin, HoldsAt, range_with_len}
use Rattle.std.specs.Option.{MatchOption}
use Rattle.labels.proofs.Bits.{has_past}
use Rattle.labels.specs.Sets.{has}
use Rattle.pairs.specs.Pairs.{value_at}
use Rattle.pairs.specs.Search.{Given, Next, Source, Gathers}
use Rattle.pairs.specs.declared.value.PairValue.{PairValue}

pub below_32 : (s k : ℕ) → s < 2 ^ 32 → has s k ≡ true → k < 32
below_32 s k small h = ⊎_elim (λ lt. lt) (λ le. absurd (both_ways (has s k) (has_past s 32 k small le) h)) (cases_lt k 32)

-- every guard was asked for, or one was found that has no value
pub given_all : (vs : List (Option PairValue)) (gs : ℕ) → gs < 2 ^ 32 → (r : Bool) → MatchBool r (AllWithin (λ g. has gs g ≡ true → is_some (value_at vs g) ≡ true) (range_with_len 0 32) 0 32) ((k : ℕ) × (k < 32) × HoldsAt (λ g. (has gs g ≡ true) × (is_some (value_at vs g) ≡ false)) (range_with_len 0 32) k) → Decides r (Given vs gs)
given_all vs gs small true all = (
  λ e g chosen.
      let low = below_32 gs g small chosen in
      subst (λ k. has gs k ≡ true → is_some (value_at vs k) ≡ true) (get_or-range_with_len 0 32 g 0 low ∙ zero-add g) (all g 0 (omega arith) low) chosen,
  λ e. refl,
)
given_all vs gs small false all =
    let bare = all.2 0 in
    (λ e. absurd (both_ways false refl e), λ given. absurd (both_ways _ bare.1 (given _ bare.0)))

-- the first from n on, where it was looked for up to 32
pub next_found : (s n : ℕ) → s < 2 ^ 32 → (r : Option ℕ) → MatchOption r ((k : ℕ) → n ≤ k → k < 32 → has s k ≢ true) (λ i. (n ≤ i) × (i < 32) × (has s i ≡ true) × ((k : ℕ) → n ≤ k → k < i → has s k ≢ true)) → Next s n r
next_found s n small None none = λ k up h. none k up (below_32 s k small h) h
next_found s n small (Some i) found = found

module _ (vs : List (Option PairValue)) (gs : ℕ) (keep : PairValue → Bool) (part : PairValue → ℕ) where
  -- the set s has the parts of the kept values of the guards below n, and no other number
  pub record Sofar (n s : ℕ) : Type 0 where
    pub every : (g : ℕ) (v : PairValue) → g < n → has gs g ≡ true → value_at vs g ≡ Some v → keep v ≡ true → has s (part v) ≡ true
    pub only : (k : ℕ) → has s k ≡ true → Source vs gs keep part k

  pub all_gathered : (n s : ℕ) → 32 ≤ n → gs < 2 ^ 32 → Sofar n s → Gathers vs gs keep part s
  all_gathered n s most small t = record { every = λ g v chosen. let low = below_32 gs g small chosen in t.every g v (omega arith) chosen; only = t.only }

  module _ (i s : ℕ) (t : Sofar i s) where
    -- guard i has nothing to add
    pub one_passed : ((v : PairValue) → has gs i ≡ true → value_at vs i ≡ Some v → keep v ≡ true → ⊥) → Sofar (i + 1) s
    one_passed nothing = record {
      every = λ g v less chosen given kept. grind (arith, common_steps, t.every g v, nothing v);
      only = t.only;
    }

    -- guard i adds the part of its value
    pub one_kept : (v : PairValue) (r : ℕ) → has gs i ≡ true → value_at vs i ≡ Some v → keep v ≡ true → part v < 32 → ((k : ℕ) → has r k ≡ (has s k || (eqb k (part v) && ltb (part v) 32))) → Sofar (i + 1) r
    one_kept v r chosen given kept small more = record {
      every = λ g w less chosen' given' kept'. grind (arith, common_steps, t.every g w, more (part w));
      only = λ k h.
          ⊎_elim
          (t.only k)
          (λ new. record { guard = i; value = v; chosen = chosen; given = given; kept = kept; is = grind (arith, nat_tests) })
          (or_cases (has s k) (eqb k (part v) && ltb (part v) 32) (sym (more k) ∙ h));
    }

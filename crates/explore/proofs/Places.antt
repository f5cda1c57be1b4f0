-- Entries at their places.
use Rattle.std.proofs.Common.{None, Some, Option, unwrap_or, take, length-take, ◌≤◌, ◌≡◌, ℕ, zero, suc, ◌+◌, ◌<◌, Bool, true, false, ◌≢◌, List, [], ◌∷◌, length, get_or, set, Decides, sym, refl, ◌∙◌, subst, ⊎_elim, arith, get_or-set_other, get_or-set_same}
use Rattle.std.proofs.lemmas.List.{get_or_default, get_or-take, length-take-le}
use Rattle.std.proofs.lemmas.Bool.{cases_lt, cases_Bool, both_ways, cond-true, cond-false}
use Rattle.std.specs.List.{AllWithin, HoldsAt}
use Rattle.std.specs.Option.{MatchOption}
use Rattle.explore.specs.Numbers.{At, Alike, Finds}
use Rattle.explore.specs.Places.{place_of}

-- a new entry behind the first n leaves each there once
module _ {E : Type 0} (es : List E) (n : ℕ) (e : E) (room : n < length es) where
  pub before_new : (k : ℕ) (d : E) → k < n → get_or (set es n e) k d ≡ get_or es k d
  before_new k d h = let ne : k ≢ n = omega arith in rw get_or-set_other

  pub at_new : (d : E) → get_or (set es n e) n d ≡ e
  at_new d = rw get_or-set_same

  pub push_once : ((i j : ℕ) → i < j → j < n → Alike es i j → ⊥) → ((k : ℕ) → k < n → At es k e → ⊥) → (i j : ℕ) → i < j → j < n + 1 → Alike (set es n e) i j → ⊥
  push_once once new i j lt h alike =
      ⊎_elim
      (λ below. once i j lt below (λ d. sym (before_new i d (omega arith)) ∙ alike d ∙ before_new j d below))
      (λ last.
      let e' : j ≡ n = omega arith in
      let low : i < n = omega arith in
      new i low (λ d. sym (before_new i d low) ∙ alike d ∙ subst (λ m. get_or (set es n e) m d ≡ e) (sym e') (at_new d)))
      (cases_lt j n)

-- found among the first n
pub finds_taken : {E : Type 0} (es : List E) (n : ℕ) (e : E) (r : Option ℕ) → n ≤ length es → Finds (take n es) (length (take n es)) e r → Finds es n e r
finds_taken es n e None h none = λ k lt at. none k (simp length-take (omega arith)) (λ d. rw get_or-take (at d))
finds_taken es n e (Some k) h found =
    let low : k < n = subst (λ m. k < m) (length-take-le n es h) found.0 in
    (low, λ d. sym (get_or-take n es k d low) ∙ found.1 d)

-- ---- the place of a thing

module _ {E : Type 0} (equal : E → E → Bool) (exact : (x y : E) → Decides (equal x y) (x ≡ y)) where
  -- a thing stands at the first place that has it
  pub place_at : (es : List E) (k : ℕ) (e d : E) → k < length es → get_or es k d ≡ e → ((i : ℕ) → i < k → get_or es i d ≡ e → ⊥) → place_of equal es e ≡ k
  place_at [] k e d h at before = absurd (omega arith)
  place_at (x ∷ xs) zero e d h at before = cond-true (equal x e) 0 (place_of equal xs e + 1) ((exact x e).1 at)
  place_at (x ∷ xs) (suc k) e d h at before =
      let other : equal x e ≡ false = ⊎_elim (λ same. absurd (before 0 (omega arith) ((exact x e).0 same))) (λ differs. differs) (cases_Bool (equal x e)) in
      let rest = place_at xs k e d (omega arith) at (λ i lt. before (suc i) (omega arith)) in
      cond-false (equal x e) 0 (place_of equal xs e + 1) other ∙ omega arith

  -- the only place that has it
  pub place_found : (es : List E) (k : ℕ) (e : E) → ((i j : ℕ) → i < j → j < length es → Alike es i j → ⊥) → k < length es → At es k e → place_of equal es e ≡ k
  place_found es k e once h at =
      place_at es k e e h (at e) (λ i lt here. once i k lt h (λ d. get_or_default es i d e (omega arith) ∙ here ∙ sym (at d)))

  pub place_missing : (es : List E) (e : E) → ((k : ℕ) → k < length es → At es k e → ⊥) → place_of equal es e ≡ length es
  place_missing [] e none = refl
  place_missing (x ∷ xs) e none =
      let other : equal x e ≡ false = ⊎_elim (λ same. absurd (none 0 (omega arith) (λ d. (exact x e).0 same))) (λ differs. differs) (cases_Bool (equal x e)) in
      cond-false (equal x e) 0 (place_of equal xs e + 1) other ∙ omega (arith, place_missing xs e (λ k h at. none (suc k) (omega arith) at))

  pub place_finds : (es : List E) (e : E) (r : Option ℕ) → ((i j : ℕ) → i < j → j < length es → Alike es i j → ⊥) → Finds es (length es) e r → unwrap_or r (length es) ≡ place_of equal es e
  place_finds es e None once none = sym (place_missing es e none)
  place_finds es e (Some k) once found = sym (place_found es k e once found.0 found.1)

  pub finds_first : (es : List E) (e : E) (r : Option ℕ) → MatchOption r (AllWithin (λ x. equal x e ≡ false) es 0 (length es)) (λ i. (i < length es) × HoldsAt (λ x. equal x e ≡ true) es i × AllWithin (λ x. equal x e ≡ false) es 0 i) → Finds es (length es) e r
  finds_first es e None none = λ k h at. both_ways (equal (get_or es k e) e) (none k e (omega arith) h) ((exact (get_or es k e) e).1 (at e))
  finds_first es e (Some k) found = (found.0, λ d. (exact (get_or es k d) e).0 (found.1 d))

  -- what stands at the place of a thing that is there
  pub place_is : (es : List E) (e d : E) → place_of equal es e < length es → get_or es (place_of equal es e) d ≡ e
  place_is [] e d h = absurd (omega arith)
  place_is (x ∷ xs) e d h =
      ⊎_elim
      (λ same.
      let here : place_of equal (x ∷ xs) e ≡ 0 = cond-true (equal x e) 0 (place_of equal xs e + 1) same in
      subst (λ k. get_or (x ∷ xs) k d ≡ e) (sym here) ((exact x e).0 same))
      (λ other.
      let later : place_of equal (x ∷ xs) e ≡ suc (place_of equal xs e) = cond-false (equal x e) 0 (place_of equal xs e + 1) other ∙ omega arith in
      subst (λ k. get_or (x ∷ xs) k d ≡ e) (sym later) (place_is xs e d (omega arith)))
      (cases_Bool (equal x e))

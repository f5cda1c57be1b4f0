-- What ranges cover, and where that may change.
use Rattle.std.proofs.Common.{◌≡◌, ℕ, suc, ◌+◌, ◌<◌, ◌≤◌, true, false, not, ◌&&◌, ◌||◌, eqb, leb, ◌⊎◌, List, [], ◌∷◌, ◌++◌, length, take, sym, refl, ap, ◌∙◌, subst, inl, inr, ⊎_elim, arith}
use Rattle.std.proofs.Math.Bool.{or_assoc, or_comm}
use Rattle.std.proofs.lemmas.List.{take_more}
use Rattle.std.proofs.lemmas.Bool.{both_ways, cases_lt, cases_Bool, leb-true, le-leb, lt-leb, and_parts, and_from, and_left, and_right, not-true, not_from_false, cond-true, cond-false}
use Rattle.labels.specs.Ranges.{surrogate, code_label, in_range, covered, given_at, nothing, past_surrogates}
use Rattle.labels.specs.declared.range.Given.{Given}

-- one range more at the end
pub covered_push : (rs : List Given) (r : Given) (g x : ℕ) → covered (rs ++ r ∷ []) g x ≡ (covered rs g x || (eqb g r.guard && in_range r.range x))
covered_push [] r g x = or_comm (eqb g r.guard && in_range r.range x) false
covered_push (s ∷ rs) r g x =
    ap (λ b. (eqb g s.guard && in_range s.range x) || b) (covered_push rs r g x)
    ∙ sym (or_assoc (eqb g s.guard && in_range s.range x) (covered rs g x) (eqb g r.guard && in_range r.range x))

pub covered_more : (rs : List Given) (i g x : ℕ) → i < length rs → covered (take (i + 1) rs) g x ≡ (covered (take i rs) g x || (eqb g (given_at rs i).guard && in_range (given_at rs i).range x))
covered_more rs i g x h = ap (λ l. covered l g x) (take_more rs i nothing h) ∙ covered_push (take i rs) (given_at rs i) g x

-- what is covered does not change between x and y
abbrev pub Steady : List Given → ℕ → ℕ → Type 0
Steady rs x y = (g z : ℕ) → x ≤ z → z ≤ y → covered rs g z ≡ covered rs g y

-- where a change may lie: where the range begins, and where it has ended
abbrev pub EndOf : Given → ℕ → Type 0
EndOf r e = (e ≡ past_surrogates r.range.low) ⊎ (e ≡ past_surrogates (r.range.high + 1))

abbrev pub Edge : List Given → ℕ → Type 0
Edge [] e = e ≡ 0
Edge (r ∷ rs) e = EndOf r e ⊎ Edge rs e

edge_zero : (rs : List Given) → Edge rs 0
edge_zero [] = refl
edge_zero (r ∷ rs) = inr (edge_zero rs)

-- what holds at 0 and at each range's two edges holds at every edge
pub edge_all : (rs : List Given) (P : ℕ → Type 0) → P 0 → ((k : ℕ) → k < length rs → P (past_surrogates (given_at rs k).range.low)) → ((k : ℕ) → k < length rs → P (past_surrogates ((given_at rs k).range.high + 1))) → (e : ℕ) → Edge rs e → P e
edge_all [] P none begins ends e = λ is. subst P (sym is) none
edge_all (r ∷ rs) P none begins ends e =
    ⊎_elim
    (⊎_elim (λ is. subst P (sym is) (begins 0 (omega arith))) (λ is. subst P (sym is) (ends 0 (omega arith))))
    (edge_all rs P none (λ k h. begins (suc k) (omega arith)) (λ k h. ends (suc k) (omega arith)) e)

-- ---- from an edge up to each label nothing changes

steady_from : (rs : List Given) (x y z : ℕ) → Steady rs x y → x ≤ z → Steady rs z y
steady_from rs x y z s h g w a b = s g w (omega arith) b

steady_with : (r : Given) (rs : List Given) (x y : ℕ) → ((z : ℕ) → x ≤ z → z ≤ y → in_range r.range z ≡ in_range r.range y) → Steady rs x y → Steady (r ∷ rs) x y
steady_with r rs x y one s g z a b = ap (λ t. (eqb g r.guard && t) || covered rs g z) (one z a b) ∙ ap (λ t. (eqb g r.guard && in_range r.range y) || t) (s g z a b)

pub record Reaches (rs : List Given) (y : ℕ) : Type 0 where
  pub from : ℕ
  pub edge : Edge rs from
  pub below : from ≤ y
  pub label : code_label from ≡ true
  pub steady : Steady rs from y

label_parts : (x : ℕ) → code_label x ≡ true → (x ≤ 0x10FFFF) × (surrogate x ≡ false)
label_parts x h = let p = and_parts (leb x 0x10FFFF) (not (surrogate x)) h in (leb-true x 0x10FFFF p.0, not-true (surrogate x) p.1)

-- a label is not below what comes past the surrogates
past_below : (x y : ℕ) → code_label y ≡ true → x ≤ y → (past_surrogates x ≤ y) × (code_label (past_surrogates x) ≡ true) × (x ≤ past_surrogates x)
past_below x y label le =
    let parts = label_parts y label in
    ⊎_elim
    (λ on.
    let is = cond-true (surrogate x) 0xE000 x on in
    let gap = and_parts (leb 0xD800 x) (leb x 0xDFFF) on in
    let from = leb-true 0xD800 x gap.0 in
    let to = leb-true x 0xDFFF gap.1 in
    let high : 0xE000 ≤ y = ⊎_elim (λ lt. absurd (both_ways (surrogate y) parts.1 (and_from (leb 0xD800 y) (leb y 0xDFFF) (le-leb 0xD800 y (omega arith)) (le-leb y 0xDFFF (omega arith))))) (λ h. h) (cases_lt y 0xE000) in
    (omega arith, ap code_label is, omega arith))
    (λ off.
    let is = cond-false (surrogate x) 0xE000 x off in
    let top = parts.0 in
    (omega arith, ap code_label is ∙ and_from (leb x 0x10FFFF) (not (surrogate x)) (le-leb x 0x10FFFF (omega arith)) (not_from_false (surrogate x) off), omega arith))
    (cases_Bool (surrogate x))

-- the later of two edges
later_edge : (r : Given) (rs : List Given) (y e : ℕ) → Reaches rs y → Edge (r ∷ rs) e → e ≤ y → code_label e ≡ true → ((z : ℕ) → e ≤ z → z ≤ y → in_range r.range z ≡ in_range r.range y) → Reaches (r ∷ rs) y
later_edge r rs y e old edge under label one =
    ⊎_elim
    (λ lt. record { from = old.from; edge = inr old.edge; below = old.below; label = old.label; steady = steady_with r rs old.from y (λ z a b. one z (omega arith) b) old.steady })
    (λ le. record { from = e; edge = edge; below = under; label = label; steady = steady_with r rs e y one (steady_from rs old.from y e old.steady le) })
    (cases_lt e old.from)

module _ (r : Given) (y : ℕ) where
  below_range : (z : ℕ) → z < r.range.low → in_range r.range z ≡ false
  below_range z h = and_left (leb r.range.low z) (leb z r.range.high) (lt-leb r.range.low z h)

  above_range : (z : ℕ) → r.range.high < z → in_range r.range z ≡ false
  above_range z h = and_right (leb r.range.low z) (leb z r.range.high) (lt-leb z r.range.high h)

  inside_range : (z : ℕ) → r.range.low ≤ z → z ≤ r.range.high → in_range r.range z ≡ true
  inside_range z a b = and_from (leb r.range.low z) (leb z r.range.high) (le-leb r.range.low z a) (le-leb z r.range.high b)

pub reaches : (rs : List Given) (y : ℕ) → code_label y ≡ true → Reaches rs y
reaches [] y label = record { from = 0; edge = refl; below = omega arith; label = refl; steady = λ g z a b. refl }
reaches (r ∷ rs) y label =
    let old = reaches rs y label in
    ⊎_elim
    (λ under. later_edge r rs y 0 old (inr (edge_zero rs)) (omega arith) refl (λ z a b. below_range r y z (omega arith) ∙ sym (below_range r y y under)))
    (λ from.
    ⊎_elim
    (λ past.
    let p = past_below (r.range.high + 1) y label (omega arith) in
    let q = p.2 in
    later_edge r rs y (past_surrogates (r.range.high + 1)) old (inl (inr refl)) p.0 p.1 (λ z a b. above_range r y z (omega arith) ∙ sym (above_range r y y past)))
    (λ to.
    let p = past_below r.range.low y label from in
    let q = p.2 in
    later_edge r rs y (past_surrogates r.range.low) old (inl (inl refl)) p.0 p.1 (λ z a b. inside_range r y z (omega arith) (omega arith) ∙ sym (inside_range r y y from to)))
    (cases_lt r.range.high y))
    (cases_lt y r.range.low)

-- How the search goes on from position to position.
use Rattle.std.proofs.Common.{◌≡◌, ℕ, ◌+◌, ◌<◌, ◌≤◌, max, ◌⊎◌, List, [], ◌∷◌, refl, ap, ◌∙◌, inl, inr, ⊎_elim, arith, below_more}
use Rattle.std.proofs.lemmas.Bool.{cases_lt, ltb-true}
use Rattle.trees.specs.Rounds.{Combination, nullary, unary, binary, Allowed, Below, round_of, key, Less}
use Rattle.explore.specs.Steps.{Steps, apply, letters}
use Rattle.explore.specs.Rounds.{InRound}
use Rattle.explore.proofs.Progress.{skip, again, fresh, with_last, last_old, last_new}

-- before anything has been tried
pub begin : {E : Type 0} (S : Steps E) (entry : ℕ → E) (first : ℕ → Combination) → InRound S entry first 0 0 0 0 0 0 0
begin S entry first = record {
  round = λ k. 0;
  this = 1;
  way = record {
    allowed = λ k h. absurd (omega arith);
    earlier = λ k h. absurd (omega arith);
    made = λ k h. absurd (omega arith);
    rounds = λ k h. absurd (omega arith);
    rises = λ i j lt h. absurd (omega arith);
    once = λ i j lt h. absurd (omega arith);
    reached = λ k h. absurd (omega arith);
    covered = λ c b l h. absurd (nothing c b h);
  };
  begun = omega arith;
  leaves = λ none. refl;
  ordered = omega arith;
  before = λ k h. absurd (omega arith);
  last = λ k g h. absurd (omega arith);
  now = λ k g h. absurd (omega arith);
}
  where
    nothing : (c : Combination) → Below 0 c → Less (key (λ k. 0) c) (1 ∷ 0 ∷ 0 ∷ 0 ∷ 0 ∷ []) → ⊥
    nothing (nullary a) b h = grind arith
    nothing (unary p a) b h = omega arith
    nothing (binary p q a) b h = omega arith

module _ {E : Type 0} {S : Steps E} {entry : ℕ → E} {first : ℕ → Combination} {n old start : ℕ} where
  -- the round of a thing, by its number
  pub found_in : {children p q a : ℕ} (w : InRound S entry first n old start children p q a) (k : ℕ) → k < n → ((k < old) × (w.round k + 1 < w.this)) ⊎ (((old ≤ k) × (k < start) × (w.round k + 1 ≡ w.this)) ⊎ ((start ≤ k) × (w.round k ≡ w.this)))
  found_in w k h =
      ⊎_elim (λ l. inl (l, w.before k l)) (λ g. inr (⊎_elim (λ l. inl (g, l, w.last k g l)) (λ m. inr (m, w.now k m h)) (cases_lt k start))) (cases_lt k old)

  -- on to a later position, where no combination lies between
  module _ {children p q a : ℕ} (w : InRound S entry first n old start children p q a) (children' p' q' a' : ℕ) where
    move : 0 < children' → Less (w.this ∷ children ∷ p ∷ q ∷ a ∷ []) (w.this ∷ children' ∷ p' ∷ q' ∷ a' ∷ []) → ((c : Combination) → Below n c → Allowed (letters S.atoms) c → Less (key w.round c) (w.this ∷ children' ∷ p' ∷ q' ∷ a' ∷ []) → Less (key w.round c) (w.this ∷ children ∷ p ∷ q ∷ a ∷ [])) → InRound S entry first n old start children' p' q' a'
    move some lt between = record {
      round = w.round;
      this = w.this;
      way = skip S entry first n w.round (w.this ∷ children ∷ p ∷ q ∷ a ∷ []) (w.this ∷ children' ∷ p' ∷ q' ∷ a' ∷ []) lt between w.way;
      begun = w.begun;
      leaves = λ none. absurd (omega arith);
      ordered = w.ordered;
      before = w.before;
      last = w.last;
      now = w.now;
    }

  -- ---- behind the last label

  pub next_single : (p : ℕ) → InRound S entry first n old start 1 p 0 S.atoms → InRound S entry first n old start 1 (p + 1) 0 0
  next_single p w = move w 1 (p + 1) 0 0 (omega arith) (inr (refl, inr (refl, inl (omega arith)))) between
    where
      between : (c : Combination) → Below n c → Allowed (letters S.atoms) c → Less (key w.round c) (w.this ∷ 1 ∷ (p + 1) ∷ 0 ∷ 0 ∷ []) → Less (key w.round c) (w.this ∷ 1 ∷ p ∷ 0 ∷ S.atoms ∷ [])
      between (nullary a) b l h = let lt = ltb-true a S.atoms l in grind arith
      between (unary x a) b l h = let lt = ltb-true a S.atoms l in let f = found_in w x b in grind arith
      between (binary x y a) b l h = let lt = ltb-true a S.atoms l in grind arith

  pub next_right : (p q : ℕ) → InRound S entry first n old start 2 p q S.atoms → InRound S entry first n old start 2 p (q + 1) 0
  next_right p q w = move w 2 p (q + 1) 0 (omega arith) (inr (refl, inr (refl, inr (refl, inl (omega arith))))) between
    where
      between : (c : Combination) → Below n c → Allowed (letters S.atoms) c → Less (key w.round c) (w.this ∷ 2 ∷ p ∷ (q + 1) ∷ 0 ∷ []) → Less (key w.round c) (w.this ∷ 2 ∷ p ∷ q ∷ S.atoms ∷ [])
      between (nullary a) b l h = let lt = ltb-true a S.atoms l in grind arith
      between (unary x a) b l h = let lt = ltb-true a S.atoms l in grind arith
      between (binary x y a) b l h = let lt = ltb-true a S.atoms l in grind arith

  -- ---- behind the last state

  -- states found in this round are not used in it
  pub next_left : (p q : ℕ) → q ≡ start → InRound S entry first n old start 2 p q 0 → InRound S entry first n old start 2 (p + 1) 0 0
  next_left p q end w = move w 2 (p + 1) 0 0 (omega arith) (inr (refl, inr (refl, inl (omega arith)))) between
    where
      between : (c : Combination) → Below n c → Allowed (letters S.atoms) c → Less (key w.round c) (w.this ∷ 2 ∷ (p + 1) ∷ 0 ∷ 0 ∷ []) → Less (key w.round c) (w.this ∷ 2 ∷ p ∷ q ∷ 0 ∷ [])
      between (nullary a) b l h = grind arith
      between (unary x a) b l h = grind arith
      between (binary x y a) b l h = let f = found_in w y b.1 in grind arith

  -- two old states have been tried before
  pub skip_old : (p : ℕ) → p < old → InRound S entry first n old start 2 p 0 0 → InRound S entry first n old start 2 p old 0
  skip_old p small w = move w 2 p old 0 (omega arith) (inr (refl, inr (refl, inr (refl, inl (omega arith))))) between
    where
      between : (c : Combination) → Below n c → Allowed (letters S.atoms) c → Less (key w.round c) (w.this ∷ 2 ∷ p ∷ old ∷ 0 ∷ []) → Less (key w.round c) (w.this ∷ 2 ∷ p ∷ 0 ∷ 0 ∷ [])
      between (nullary a) b l h = grind arith
      between (unary x a) b l h = grind arith
      between (binary x y a) b l h = let f = found_in w x b.0 in let g = found_in w y b.1 in grind arith

  pub to_doubles : (p : ℕ) → p ≡ start → InRound S entry first n old start 1 p 0 0 → InRound S entry first n old start 2 0 0 0
  to_doubles p end w = move w 2 0 0 0 (omega arith) (inr (refl, inl (omega arith))) between
    where
      between : (c : Combination) → Below n c → Allowed (letters S.atoms) c → Less (key w.round c) (w.this ∷ 2 ∷ 0 ∷ 0 ∷ 0 ∷ []) → Less (key w.round c) (w.this ∷ 1 ∷ p ∷ 0 ∷ 0 ∷ [])
      between (nullary a) b l h = grind arith
      between (unary x a) b l h = let f = found_in w x b in grind arith
      between (binary x y a) b l h = grind arith

  pub doubles_done : (p : ℕ) → p ≡ start → InRound S entry first n old start 2 p 0 0 → InRound S entry first n old start 3 0 0 0
  doubles_done p end w = move w 3 0 0 0 (omega arith) (inr (refl, inl (omega arith))) between
    where
      between : (c : Combination) → Below n c → Allowed (letters S.atoms) c → Less (key w.round c) (w.this ∷ 3 ∷ 0 ∷ 0 ∷ 0 ∷ []) → Less (key w.round c) (w.this ∷ 2 ∷ p ∷ 0 ∷ 0 ∷ [])
      between (nullary a) b l h = grind arith
      between (unary x a) b l h = grind arith
      between (binary x y a) b l h = let f = found_in w x b.0 in grind arith

-- ---- a round done, and the next

pub next_round : {E : Type 0} {S : Steps E} {entry : ℕ → E} {first : ℕ → Combination} {n old start : ℕ} → InRound S entry first n old start 3 0 0 0 → InRound S entry first n start n 1 start 0 0
next_round {S = S} {entry = entry} {first = first} {n = n} {old = old} {start = start} w = record {
  round = w.round;
  this = w.this + 1;
  way = skip S entry first n w.round (w.this ∷ 3 ∷ 0 ∷ 0 ∷ 0 ∷ []) ((w.this + 1) ∷ 1 ∷ start ∷ 0 ∷ 0 ∷ []) (inl (omega arith)) between w.way;
  begun = omega arith;
  leaves = λ none. absurd (omega arith);
  ordered = (w.ordered.1, omega arith);
  before = λ k h. let f = found_in w k (omega (arith, w.ordered.1)) in grind arith;
  last = λ k g h. let e = w.now k g h in omega arith;
  now = λ k g h. absurd (omega arith);
}
  where
    between : (c : Combination) → Below n c → Allowed (letters S.atoms) c → Less (key w.round c) ((w.this + 1) ∷ 1 ∷ start ∷ 0 ∷ 0 ∷ []) → Less (key w.round c) (w.this ∷ 3 ∷ 0 ∷ 0 ∷ 0 ∷ [])
    between (nullary a) b l h = let e = w.begun in grind arith
    between (unary x a) b l h = let f = found_in w x b in grind arith
    between (binary x y a) b l h = let f = found_in w x b.0 in let g = found_in w y b.1 in grind arith

-- ---- the combination at the position is tried

abbrev front : List ℕ → ℕ
front [] = 0
front (x ∷ xs) = x

module _ {E : Type 0} {S : Steps E} {entry : ℕ → E} {first : ℕ → Combination} {n old start children p q a : ℕ} (w : InRound S entry first n old start children p q a) where
  -- whose turn it is
  pub leaf_turn : children ≡ 0 → p ≡ 0 → q ≡ 0 → key w.round (nullary a) ≡ w.this ∷ children ∷ p ∷ q ∷ a ∷ []
  leaf_turn e f g = cc (w.leaves e)

  pub single_turn : children ≡ 1 → q ≡ 0 → old ≤ p → p < start → key w.round (unary p a) ≡ w.this ∷ children ∷ p ∷ q ∷ a ∷ []
  single_turn e g low high = cc (w.last p low high)

  pub double_turn : children ≡ 2 → p < start → q < start → (old ≤ p) ⊎ (old ≤ q) → key w.round (binary p q a) ≡ w.this ∷ children ∷ p ∷ q ∷ a ∷ []
  double_turn e lp lq new =
      let ord = w.ordered in
      let f = found_in w p (omega arith) in
      let g = found_in w q (omega arith) in
      let top : max (w.round p) (w.round q) + 1 ≡ w.this = grind arith in
      cc

  -- the round of the combination
  turn_round : (c : Combination) → key w.round c ≡ w.this ∷ children ∷ p ∷ q ∷ a ∷ [] → round_of w.round c ≡ w.this
  turn_round (nullary x) e = ap front e
  turn_round (unary x y) e = ap front e
  turn_round (binary x y z) e = ap front e

  module _ (c : Combination) (b : Below n c) (l : Allowed (letters S.atoms) c) (turn : key w.round c ≡ w.this ∷ children ∷ p ∷ q ∷ a ∷ []) where
    pub found_again : (k : ℕ) → k < n → entry k ≡ apply S entry c → InRound S entry first n old start children p q (a + 1)
    found_again k h e = record {
      round = w.round;
      this = w.this;
      way = again S entry first n w.round c (w.this ∷ children ∷ p ∷ q ∷ []) a b l turn w.way k h e;
      begun = w.begun;
      leaves = w.leaves;
      ordered = w.ordered;
      before = w.before;
      last = w.last;
      now = w.now;
    }

    module _ (entry' : ℕ → E) (first' : ℕ → Combination) (entries : (k : ℕ) → k < n → entry' k ≡ entry k) (entered : entry' n ≡ apply S entry c) (firsts : (k : ℕ) → k < n → first' k ≡ first k) (firsted : first' n ≡ c) (new : (k : ℕ) → k < n → entry k ≡ apply S entry c → ⊥) where
      abbrev later : ℕ → ℕ
      later = with_last n w.round (round_of w.round c)

      same : (k : ℕ) → k < n → later k ≡ w.round k
      same = last_old n w.round (round_of w.round c)

      latest : later n ≡ w.this
      latest = last_new n w.round (round_of w.round c) ∙ turn_round c turn

      pub found_new : InRound S entry' first' (n + 1) old start children p q (a + 1)
      found_new = record {
        round = later;
        this = w.this;
        way = fresh S entry first n w.round c (w.this ∷ children ∷ p ∷ q ∷ []) a b l turn w.way entry' first' entries entered firsts firsted new;
        begun = w.begun;
        leaves = w.leaves;
        ordered = (w.ordered.0, omega (arith, w.ordered.1));
        before = λ k h. omega (arith, w.before k h, same k (omega (arith, w.ordered.0, w.ordered.1)));
        last = λ k g h. omega (arith, w.last k g h, same k (omega (arith, w.ordered.1)));
        now = λ k g h. below_more (λ k. start ≤ k → later k ≡ w.this) n (λ k h g. same k h ∙ w.now k g h) (λ g. latest) k h g;
      }

-- One combination after another is tried: what has been found so far stays so.
use Rattle.std.proofs.Common.{◌≡◌, ℕ, ◌+◌, ◌<◌, max, cond, eqb, ◌⊎◌, List, [], ◌∷◌, ◌++◌, length, sym, refl, ap, ◌∙◌, subst, ap₂, subst₂, inl, inr, ⊎_elim, arith, below_more}
use Rattle.std.proofs.lemmas.Bool.{cases_lt, eq-eqb, ne_eqb, cond-true, cond-false}
use Rattle.trees.specs.Rounds.{Combination, nullary, unary, binary, Allowed, Below, round_of, key, Less, Before}
use Rattle.trees.proofs.Order.{less_trans, less_irreflexive, one_key, same_key, same_round, key_length, before_round}
use Rattle.trees.proofs.Running.{below_wider}
use Rattle.explore.specs.Steps.{Steps, apply, letters}
use Rattle.explore.specs.Rounds.{Underway}

-- ---- positions

pub here_next : (ys : List ℕ) (a : ℕ) → Less (ys ++ a ∷ []) (ys ++ (a + 1) ∷ [])
here_next [] a = inl (omega arith)
here_next (y ∷ ys) a = inr (refl, here_next ys a)

-- nothing lies between a position and the next one
pub less_next : (ys : List ℕ) (a : ℕ) (xs : List ℕ) → length xs ≡ length (ys ++ a ∷ []) → Less xs (ys ++ (a + 1) ∷ []) → Less xs (ys ++ a ∷ []) ⊎ (xs ≡ ys ++ a ∷ [])
less_next [] a [] e h = absurd h
less_next [] a (x ∷ []) e h =
    ⊎_elim (λ lt. ⊎_elim (λ l. inl (inl l)) (λ l. let same : x ≡ a = omega arith in inr (ap (λ m. m ∷ []) same)) (cases_lt x a)) (λ p. absurd p.1) h
less_next [] a (x ∷ (x' ∷ xs)) e h = absurd (omega arith)
less_next (y ∷ ys) a [] e h = absurd h
less_next (y ∷ ys) a (x ∷ xs) e h =
    ⊎_elim (λ lt. inl (inl lt)) (λ p. ⊎_elim (λ l. inl (inr (p.0, l))) (λ l. inr (ap₂ ◌∷◌ p.0 l)) (less_next ys a xs (omega arith) p.1)) h

-- ---- one more number

-- f, and x at n
pub with_last : {X : Type 0} → ℕ → (ℕ → X) → X → ℕ → X
with_last n f x k = cond (eqb k n) x (f k)

pub last_old : {X : Type 0} (n : ℕ) (f : ℕ → X) (x : X) (k : ℕ) → k < n → with_last n f x k ≡ f k
unfolding with_last
last_old n f x k h = cond-false (eqb k n) x (f k) (ne_eqb k n (omega arith))

pub last_new : {X : Type 0} (n : ℕ) (f : ℕ → X) (x : X) → with_last n f x n ≡ x
unfolding with_last
last_new n f x = cond-true (eqb n n) x (f n) (eq-eqb n n refl)

-- ---- what a combination leads to goes by its own states

pub apply_same : {E : Type 0} (S : Steps E) (n : ℕ) (e f : ℕ → E) → ((k : ℕ) → k < n → e k ≡ f k) → (c : Combination) → Below n c → apply S e c ≡ apply S f c
apply_same S n e f same (nullary a) b = refl
apply_same S n e f same (unary p a) b = ap (λ x. S.single x a) (same p b)
apply_same S n e f same (binary p q a) b = ap₂ (λ x y. S.double x y a) (same p b.0) (same q b.1)

-- a combination of the first n + 1 states is one of the first n, or is tried after the last was found
pub below_or_after : (n : ℕ) (r : ℕ → ℕ) (c : Combination) → Below (n + 1) c → Below n c ⊎ (r n < round_of r c)
below_or_after n r (nullary a) b = inl tt
below_or_after n r (unary p a) b =
    ⊎_elim inl (λ h. let same : p ≡ n = omega arith in inr (subst (λ m. r m < r p + 1) same (omega arith))) (cases_lt p n)
below_or_after n r (binary p q a) b =
    ⊎_elim
    (λ h.
    ⊎_elim
    (λ l. inl (h, l))
    (λ l. let same : q ≡ n = omega arith in inr (subst (λ m. r m < max (r p) (r q) + 1) same (omega arith)))
    (cases_lt q n))
    (λ h. let same : p ≡ n = omega arith in inr (subst (λ m. r m < max (r p) (r q) + 1) same (omega arith)))
    (cases_lt p n)

module _ {E : Type 0} (S : Steps E) (entry : ℕ → E) (first : ℕ → Combination) (n : ℕ) (round : ℕ → ℕ) where
  -- on to a later position, where no combination lies between
  pub skip : (K K' : List ℕ) → Less K K' → ((c : Combination) → Below n c → Allowed (letters S.atoms) c → Less (key round c) K' → Less (key round c) K) → Underway S entry first n round K → Underway S entry first n round K'
  skip K K' lt between w = record {
    allowed = w.allowed;
    earlier = w.earlier;
    made = w.made;
    rounds = w.rounds;
    rises = w.rises;
    once = w.once;
    reached = λ k h. less_trans (key round (first k)) K K' (w.reached k h) lt;
    covered = λ c b l h. w.covered c b l (between c b l h);
  }

-- ---- the combination at the position is tried

module _ {E : Type 0} (S : Steps E) (entry : ℕ → E) (first : ℕ → Combination) (n : ℕ) (round : ℕ → ℕ) (c : Combination) (ys : List ℕ) (a : ℕ) (b : Below n c) (l : Allowed (letters S.atoms) c) (here : key round c ≡ ys ++ a ∷ []) (w : Underway S entry first n round (ys ++ a ∷ [])) where
  -- nothing found before comes after it
  not_after : (k : ℕ) → k < n → Before round c (first k) → ⊥
  not_after k h before =
      less_irreflexive (key round c) (less_trans (key round c) (key round (first k)) (key round c) before (subst (Less (key round (first k))) (sym here) (w.reached k h)))

  -- tried before it, or itself
  until : (d : Combination) → Less (key round d) (ys ++ (a + 1) ∷ []) → Less (key round d) (ys ++ a ∷ []) ⊎ (c ≡ d)
  until d h =
      ⊎_elim inl (λ same. inr (one_key round c d (here ∙ sym same))) (less_next ys a (key round d) (key_length round d ∙ sym (key_length round c) ∙ ap length here) h)

  -- it leads to what has been found
  pub again : (k : ℕ) → k < n → entry k ≡ apply S entry c → Underway S entry first n round (ys ++ (a + 1) ∷ [])
  again k h e = record {
    allowed = w.allowed;
    earlier = w.earlier;
    made = w.made;
    rounds = w.rounds;
    rises = w.rises;
    once = w.once;
    reached = λ i lt. less_trans (key round (first i)) (ys ++ a ∷ []) (ys ++ (a + 1) ∷ []) (w.reached i lt) (here_next ys a);
    covered = λ d bd ld less.
        ⊎_elim
        (w.covered d bd ld)
        (λ same. (k, h, e ∙ ap (apply S entry) same, λ before. not_after k h (subst (λ x. Before round x (first k)) (sym same) before)))
        (until d less);
  }

  -- it leads to something new
  module _ (entry' : ℕ → E) (first' : ℕ → Combination) (entries : (k : ℕ) → k < n → entry' k ≡ entry k) (entered : entry' n ≡ apply S entry c) (firsts : (k : ℕ) → k < n → first' k ≡ first k) (firsted : first' n ≡ c) (new : (k : ℕ) → k < n → entry k ≡ apply S entry c → ⊥) where
    abbrev round' : ℕ → ℕ
    round' = with_last n round (round_of round c)

    round_old : (k : ℕ) → k < n → round' k ≡ round k
    round_old = last_old n round (round_of round c)

    round_new : round' n ≡ round_of round c
    round_new = last_new n round (round_of round c)

    old_key : (d : Combination) → Below n d → key round' d ≡ key round d
    old_key = same_key n round' round round_old

    first_key : (k : ℕ) → k < n → key round' (first' k) ≡ key round (first k)
    first_key k h = ap (key round') (firsts k h) ∙ old_key (first k) (below_wider k n (omega arith) (first k) (w.earlier k h))

    tried_key : key round' c ≡ ys ++ a ∷ []
    tried_key = old_key c b ∙ here

    new_key : key round' (first' n) ≡ ys ++ a ∷ []
    new_key = ap (key round') firsted ∙ tried_key

    old_apply : (d : Combination) → Below n d → apply S entry' d ≡ apply S entry d
    old_apply = apply_same S n entry' entry entries

    pub fresh : Underway S entry' first' (n + 1) round' (ys ++ (a + 1) ∷ [])
    fresh = record {
      allowed = below_more (λ k. Allowed (letters S.atoms) (first' k)) n (λ k h. rw (firsts k h) (w.allowed k h)) (rw firsted l);
      earlier = below_more (λ k. Below k (first' k)) n (λ k h. rw (firsts k h) (w.earlier k h)) (rw firsted b);
      made = below_more (λ k. entry' k ≡ apply S entry' (first' k)) n
          (λ k h. entries k h ∙ w.made k h ∙ sym (old_apply (first k) (below_wider k n (omega arith) (first k) (w.earlier k h))) ∙ ap (apply S entry') (sym (firsts k h)))
          (entered ∙ sym (old_apply c b) ∙ ap (apply S entry') (sym firsted));
      rounds = below_more (λ k. round' k ≡ round_of round' (first' k)) n
          (λ k h. round_old k h ∙ w.rounds k h ∙ sym (same_round n round' round round_old (first k) (below_wider k n (omega arith) (first k) (w.earlier k h))) ∙ ap (round_of round') (sym (firsts k h)))
          (round_new ∙ sym (same_round n round' round round_old c b) ∙ ap (round_of round') (sym firsted));
      rises = λ i j lt h.
          below_more (λ j. i < j → Less (key round' (first' i)) (key round' (first' j))) n
          (λ j h lt. subst₂ Less (sym (first_key i (omega arith))) (sym (first_key j h)) (w.rises i j lt h))
          (λ lt. subst₂ Less (sym (first_key i lt)) (sym new_key) (w.reached i lt))
          j h lt;
      once = λ i j lt h.
          below_more (λ j. i < j → entry' i ≡ entry' j → ⊥) n
          (λ j h lt e. w.once i j lt h (sym (entries i (omega arith)) ∙ e ∙ entries j h))
          (λ lt e. new i lt (sym (entries i lt) ∙ e ∙ entered))
          j h lt;
      reached = below_more (λ k. Less (key round' (first' k)) (ys ++ (a + 1) ∷ [])) n
          (λ k h. subst (λ x. Less x (ys ++ (a + 1) ∷ [])) (sym (first_key k h)) (less_trans (key round (first k)) (ys ++ a ∷ []) (ys ++ (a + 1) ∷ []) (w.reached k h) (here_next ys a)))
          (subst (λ x. Less x (ys ++ (a + 1) ∷ [])) (sym new_key) (here_next ys a));
      covered = λ d bd ld less.
          ⊎_elim
          (λ lt.
          ⊎_elim
          (λ bn.
          let old = w.covered d bn ld (subst (λ x. Less x (ys ++ a ∷ [])) (old_key d bn) lt) in
          let k = old.0 in
          let h : k < n = old.1 in
          (k, omega arith, entries k h ∙ old.2 ∙ sym (old_apply d bn), λ before. old.3 (subst₂ Less (old_key d bn) (first_key k h) before)))
          (λ after.
          let le = before_round round' d c (subst (Less (key round' d)) (sym tried_key) lt) in
          let same = same_round n round' round round_old c b in
          absurd (omega (arith, round_new)))
          (below_or_after n round' d bd))
          (λ same.
          let e : c ≡ d = one_key round' c d (tried_key ∙ sym same) in
          (n, omega arith, entered ∙ sym (old_apply c b) ∙ ap (apply S entry') e, λ before. less_irreflexive (ys ++ a ∷ []) (subst₂ Less same new_key before)))
          (less_next ys a (key round' d) (key_length round' d ∙ sym (key_length round c) ∙ ap length here) less);
    }

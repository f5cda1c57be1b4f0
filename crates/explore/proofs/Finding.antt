-- When a round has found nothing new, all things have been found; and what it means that there is no place for one more.
use Rattle.std.proofs.Common.{◌≡◌, ℕ, ◌<◌, true, ltb, ◌⊎◌, [], ◌∷◌, sym, refl, ◌∙◌, subst, inl, inr, ⊎_elim, arith}
use Rattle.std.proofs.lemmas.Bool.{cases_lt, cases_Bool, cases_order, both_ways}
use Rattle.trees.specs.Automata.{Automaton}
use Rattle.trees.specs.Rounds.{Combination, nullary, unary, binary, step, Allowed, Below, key, Less, Before}
use Rattle.trees.proofs.Running
use Rattle.explore.specs.Steps.{Steps, apply, letters}
use Rattle.explore.specs.Rounds.{InRound, Found, MoreThan}
use Rattle.explore.proofs.Progress.{with_last, last_old, last_new}
use Rattle.explore.proofs.Positions.{found_in, found_new}

-- ---- the end of the last round

-- a combination that can be tried, or not
can_try : (m n : ℕ) (c : Combination) → (Below n c × Allowed (letters m) c) ⊎ (Below n c → Allowed (letters m) c → ⊥)
can_try m n (nullary a) = ⊎_elim (λ l. inl (tt, l)) (λ f. inr (λ b l. both_ways (ltb a m) f l)) (cases_Bool (ltb a m))
can_try m n (unary p a) =
    ⊎_elim (λ h. ⊎_elim (λ l. inl (h, l)) (λ f. inr (λ b l. both_ways (ltb a m) f l)) (cases_Bool (ltb a m))) (λ h. inr (λ b l. omega arith)) (cases_lt p n)
can_try m n (binary p q a) =
    ⊎_elim
    (λ h.
    ⊎_elim
    (λ k. ⊎_elim (λ l. inl ((h, k), l)) (λ f. inr (λ b l. both_ways (ltb a m) f l)) (cases_Bool (ltb a m)))
    (λ k. inr (λ b l. omega arith))
    (cases_lt q n))
    (λ h. inr (λ b l. omega arith))
    (cases_lt p n)

module _ {E : Type 0} {S : Steps E} {entry : ℕ → E} {first : ℕ → Combination} {n old start : ℕ} (w : InRound S entry first n old start 3 0 0 0) (over : n ≡ start) where
  -- every combination has been tried
  tried : (c : Combination) → Below n c → Less (key w.round c) (w.this ∷ 3 ∷ 0 ∷ 0 ∷ 0 ∷ [])
  tried (nullary a) b = let e = w.begun in grind arith
  tried (unary p a) b = let f = found_in w p b in grind arith
  tried (binary p q a) b = let f = found_in w p b.0 in let g = found_in w q b.1 in grind arith

  -- k is the number that c leads to
  abbrev Leads : Combination → ℕ → Type 0
  Leads c k = (k < n) × (entry k ≡ apply S entry c) × (Before w.round c (first k) → ⊥)

  leads : (c : Combination) → (k : ℕ) × (Below n c → Allowed (letters S.atoms) c → Leads c k)
  leads c =
      ⊎_elim
      (λ h. let found = w.way.covered c h.0 h.1 (tried c h.0) in (found.0, λ b l. (found.1, found.2, found.3)))
      (λ never. (0, λ b l. absurd (never b l)))
      (can_try S.atoms n c)

  abbrev numbers : Automaton
  numbers = record {
    size = n;
    none = λ a. (leads (nullary a)).0;
    single = λ p a. (leads (unary p a)).0;
    double = λ p q a. (leads (binary p q a)).0;
    accepts = λ s. true;
  }

  step_leads : (c : Combination) → Below n c → Allowed (letters S.atoms) c → Leads c (step numbers c)
  step_leads (nullary a) b l = (leads (nullary a)).1 b l
  step_leads (unary p a) b l = (leads (unary p a)).1 b l
  step_leads (binary p q a) b l = (leads (binary p q a)).1 b l

  one_number : (i j : ℕ) → i < n → j < n → entry i ≡ entry j → i ≡ j
  one_number i j h k e =
      ⊎_elim (λ same. same) (⊎_elim (λ lt. absurd (w.way.once i j lt k e)) (λ lt. absurd (w.way.once j i lt h (sym e)))) (cases_order i j)

  wider : (k : ℕ) → k < n → Below n (first k)
  wider k h = Running.below_wider k n (omega arith) (first k) (w.way.earlier k h)

  pub all_found : Found S entry first n
  all_found = record {
    numbers = numbers;
    size = refl;
    complete = record {
      none = λ a l. (step_leads (nullary a) tt l).0;
      single = λ p a b l. (step_leads (unary p a) b l).0;
      double = λ p q a b d l. (step_leads (binary p q a) (b, d) l).0;
    };
    numbered = record {
      first = first;
      round = w.round;
      leads = λ s h. let to = step_leads (first s) (wider s h) (w.way.allowed s h) in one_number (step numbers (first s)) s to.0 h (to.1 ∙ sym (w.way.made s h));
      allowed = w.way.allowed;
      earlier = w.way.earlier;
      rounds = w.way.rounds;
      rises = w.way.rises;
      least = λ s c h b l e before. (step_leads c b l).2 (subst (λ k. Before w.round c (first k)) (sym e) before);
    };
    firsts = λ k h. refl;
    steps = λ c b l. (step_leads c b l).1;
    once = w.way.once;
  }

-- ---- one thing more than there are places

module _ {E : Type 0} {S : Steps E} {entry : ℕ → E} {first : ℕ → Combination} {n old start children p q a : ℕ} (w : InRound S entry first n old start children p q a) (c : Combination) (b : Below n c) (l : Allowed (letters S.atoms) c) (turn : key w.round c ≡ w.this ∷ children ∷ p ∷ q ∷ a ∷ []) (new : (k : ℕ) → k < n → entry k ≡ apply S entry c → ⊥) where
  pub too_many : MoreThan n S
  too_many =
      let e = with_last n entry (apply S entry c) in
      let f = with_last n first c in
      let way = (found_new w c b l turn e f (last_old n entry (apply S entry c)) (last_new n entry (apply S entry c)) (last_old n first c) (last_new n first c) new).way in
      record {
        entry = e;
        first = f;
        allowed = λ k h. way.allowed k (omega arith);
        earlier = λ k h. way.earlier k (omega arith);
        made = λ k h. way.made k (omega arith);
        once = λ i j lt h. way.once i j lt (omega arith);
      }

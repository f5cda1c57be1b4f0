-- The examples meet their definitions.
use Rattle.std.proofs.Common.{◌≡◌, ℕ, zero, suc, ◌<◌, ◌≤◌, max, true, cond, ◌&&◌, eqb, ◌⊎◌, List, [], ◌∷◌, get_or, sym, refl, ap, ◌∙◌, subst, ap₂, inl, inr, ⊎_elim, arith}
use Rattle.std.proofs.lemmas.Bool.{cases_lt, true≢false, false≢true, ltb-true, lt-ltb, eqb-true, or_cases}
use Rattle.std.proofs.lemmas.Bool.Decides.{nat_tests}
use Rattle.trees.specs.Trees.{Tree, leaf, one, two, Over, place, Congruent}
use Rattle.trees.specs.Automata.{Automaton, run, accepted, For, Reachable}
use Rattle.trees.specs.Rounds.{Combination, nullary, unary, binary, step, Allowed, Below, round_of, Less, Before, Numbered}
use Rattle.trees.specs.Normal.{NormalForm, Same, Apart}
use Rattle.trees.specs.Lines.{Uses, LeadsBack, itself, used, Renumbered}
use Rattle.trees.specs.Products.{Pairs}
use Rattle.trees.specs.Classes.{by_accepts, Separate, accept, single, left, right, Stable, Quotient}
use Rattle.trees.specs.Letters.{Atoms, relabel}
use Rattle.trees.specs.Theorems.{Finite}
use Rattle.trees.specs.Examples.{bits, zeros, solo, changed, flipped, spare, anything, joined, rules, ruled, lines, kept, anew, quarters, half, double, Examples}
use Rattle.trees.proofs.Running.{run_below, same_state}
use Rattle.trees.proofs.ByRules.{sets_by_rules}
use Rattle.trees.proofs.Classes.{incongruent}
use Rattle.trees.proofs.Counting.{apart_needs_states}
use Rattle.trees.proofs.Labels.{normal_over_labels}

-- what holds of each number below n
abbrev Each : ℕ → (ℕ → Type 0) → Type 0
Each zero P = Unit {0}
Each (suc n) P = Each n P × P n

each : (n : ℕ) (P : ℕ → Type 0) → Each n P → (k : ℕ) → k < n → P k
each zero P h k l = absurd (omega arith)
each (suc n) P h k l = ⊎_elim (each n P h.0 k) (λ g. let e : n ≡ k = omega arith in subst P e h.1) (cases_lt k n)

-- ---- the language

module _ (A : Automaton) (none : (a : ℕ) → A.accepts (A.none a) ≡ eqb a 0) (single : (p a : ℕ) → A.accepts (A.single p a) ≡ (eqb a 0 && A.accepts p)) (double : (p q a : ℕ) → A.accepts (A.double p q a) ≡ (eqb a 0 && (A.accepts p && A.accepts q))) where
  exact : (t : Tree) → accepted A t ≡ zeros t
  exact (leaf a) = none a
  exact (one a t) = single (run A t) a ∙ ap (λ x. eqb a 0 && x) (exact t)
  exact (two a t u) = double (run A t) (run A u) a ∙ ap₂ (λ x y. eqb a 0 && (x && y)) (exact t) (exact u)

solo_for : For bits zeros solo
solo_for =
    record {
      complete = record {
        none = λ a l. ltb-true a 2 l;
        single = λ p a h l. omega (arith, ltb-true a 2 l);
        double = λ p q a h g l. omega (arith, ltb-true a 2 l);
      };
      exact = λ t o. exact solo (λ a. refl) (λ p a. grind (arith, nat_tests)) (λ p q a. grind (arith, nat_tests)) t;
    }

flipped_for : For bits zeros flipped
flipped_for =
    record {
      complete = record {
        none = λ a l. omega arith;
        single = λ p a h l. omega arith;
        double = λ p q a h g l. omega arith;
      };
      exact = λ t o. exact flipped (λ a. grind (arith, nat_tests)) (λ p a. grind (arith, nat_tests)) (λ p q a. grind (arith, nat_tests)) t;
    }

spare_for : For bits zeros spare
spare_for =
    record {
      complete = record {
        none = λ a l. omega (arith, ltb-true a 2 l);
        single = λ p a h l. grind (arith, nat_tests);
        double = λ p q a h g l. grind (arith, nat_tests);
      };
      exact = λ t o. exact spare (λ a. refl) (λ p a. grind (arith, nat_tests)) (λ p q a. grind (arith, nat_tests)) t;
    }

-- ---- numberings

less_same : (x : ℕ) (xs ys : List ℕ) → Less (x ∷ xs) (x ∷ ys) → Less xs ys
less_same x xs ys h = ⊎_elim (λ l. absurd (omega arith)) (λ p. p.1) h

leaves_rise : (r : ℕ → ℕ) (b a : ℕ) → b < a → Before r (nullary b) (nullary a)
leaves_rise r b a l = inr (refl, inr (refl, inr (refl, inr (refl, inl l))))

leaf_before : (r : ℕ → ℕ) (b a : ℕ) → Before r (nullary b) (nullary a) → b < a
leaf_before r b a h =
    ⊎_elim (λ l. l) (λ p. absurd p.1)
    (less_same 0 (b ∷ []) (a ∷ [])
    (less_same 0 (0 ∷ b ∷ []) (0 ∷ a ∷ [])
    (less_same 0 (0 ∷ 0 ∷ b ∷ []) (0 ∷ 0 ∷ a ∷ []) (less_same 1 (0 ∷ 0 ∷ 0 ∷ b ∷ []) (0 ∷ 0 ∷ 0 ∷ a ∷ []) h))))

-- where every round is at least 1, only leaves are tried before a leaf
before_leaf : (r : ℕ → ℕ) → ((p : ℕ) → 1 ≤ r p) → (c : Combination) (a : ℕ) → Before r c (nullary a) → (b : ℕ) × (c ≡ nullary b) × (b < a)
before_leaf r pos (nullary b) a h = (b, refl, leaf_before r b a h)
before_leaf r pos (unary p b) a h = let l = pos p in absurd (⊎_elim (λ g. omega arith) (λ g. omega (arith, g.0)) h)
before_leaf r pos (binary p q b) a h = let l = pos p in absurd (⊎_elim (λ g. omega arith) (λ g. omega (arith, g.0)) h)

abbrev solo_numbered : Numbered bits solo
solo_numbered =
    record {
      first = nullary;
      round = λ s. 1;
      leads = λ s h. refl;
      allowed = λ s h. lt-ltb s 2 h;
      earlier = λ s h. tt;
      rounds = λ s h. refl;
      rises = λ s t l h. leaves_rise (λ s. 1) s t l;
      least = λ s c h b l e g. let x = before_leaf (λ s. 1) (λ p. omega arith) c s g in let same = ap (step solo) x.1 in omega (arith, x.2);
    }

same_bit : (x y : ℕ) → x < 2 → y < 2 → eqb x 0 ≡ eqb y 0 → x ≡ y
same_bit x y h g e = grind (arith, nat_tests)

abbrev solo_normal : NormalForm bits zeros solo
solo_normal =
    record {
      accepts = solo_for;
      reduced = λ t u ot ou e.
          same_bit (run solo t) (run solo u) (run_below bits solo solo_for.complete t ot) (run_below bits solo solo_for.complete u ou)
          (solo_for.exact t ot ∙ e place tt ∙ sym (solo_for.exact u ou));
      numbered = solo_numbered;
    }

-- the states of spare are found by a leaf 0, a leaf 1, and the label 1 over the first
abbrev spare_first : ℕ → Combination
spare_first s = get_or (nullary 0 ∷ nullary 1 ∷ unary 0 1 ∷ []) s (nullary 0)

abbrev spare_round : ℕ → ℕ
spare_round s = max s 1

abbrev Least : ℕ → Type 0
Least s = (c : Combination) → Allowed bits c → step spare c ≡ s → Before spare_round c (spare_first s) → ⊥

least_leaf : (s : ℕ) (c : Combination) → step spare c ≡ s → Before spare_round c (nullary s) → ⊥
least_leaf s c e g = let x = before_leaf spare_round (λ p. omega arith) c s g in let same = ap (step spare) x.1 in omega (arith, x.2)

least_2 : Least 2
least_2 (nullary b) l e g = omega (arith, ltb-true b 2 l)
least_2 (unary p b) l e g =
    ⊎_elim
    (λ h. omega arith)
    (λ h.
    ⊎_elim
    (λ k. omega arith)
    (λ k.
    ⊎_elim (λ m. let z : b ≡ 0 = omega arith in let x : cond (eqb (max 0 0) 0) 0 2 ≡ 2 = rw (k.0, z) at e in omega arith) (λ m. m.1) (less_same 0 (b ∷ []) (1 ∷ []) k.1))
    (less_same 1 (p ∷ 0 ∷ b ∷ []) (0 ∷ 0 ∷ 1 ∷ []) h.1))
    g
least_2 (binary p q b) l e g = ⊎_elim (λ h. omega arith) (λ h. ⊎_elim (λ k. omega arith) (λ k. omega (arith, k.0)) h.1) g

rises_1 : (s : ℕ) → s < 1 → Before spare_round (spare_first s) (nullary 1)
rises_1 = each 1 (λ s. Before spare_round (spare_first s) (nullary 1)) (tt, leaves_rise spare_round 0 1 (omega arith))

rises_2 : (s : ℕ) → s < 2 → Before spare_round (spare_first s) (unary 0 1)
rises_2 = each 2 (λ s. Before spare_round (spare_first s) (unary 0 1)) ((tt, inl (omega arith)), inl (omega arith))

abbrev spare_numbered : Numbered bits spare
spare_numbered =
    record {
      first = spare_first;
      round = spare_round;
      leads = each 3 (λ s. step spare (spare_first s) ≡ s) (((tt, refl), refl), refl);
      allowed = each 3 (λ s. Allowed bits (spare_first s)) (((tt, refl), refl), refl);
      earlier = each 3 (λ s. Below s (spare_first s)) (((tt, tt), tt), omega arith);
      rounds = each 3 (λ s. spare_round s ≡ round_of spare_round (spare_first s)) (((tt, refl), refl), refl);
      rises = λ s t l h. each 3 (λ t. (s : ℕ) → s < t → Before spare_round (spare_first s) (spare_first t)) (((tt, λ s l. absurd (omega arith)), rises_1), rises_2) t h s l;
      least = λ s c h b l e. each 3 Least (((tt, λ c l. least_leaf 0 c), λ c l. least_leaf 1 c), least_2) s h c l e;
    }

-- ---- the other way round the leaf 0 would come second

not_risen : (r : ℕ → ℕ) (c d : Combination) → Below 0 c → Below 1 d → Allowed bits c → Allowed bits d → step flipped c ≡ 0 → step flipped d ≡ 1 → Before r c d → ⊥
not_risen r (unary p a) d b g l m e f h = omega arith
not_risen r (binary p q a) d b g l m e f h = omega arith
not_risen r (nullary a) (unary p x) b g l m e f h = omega arith
not_risen r (nullary a) (binary p q x) b g l m e f h = omega arith
not_risen r (nullary a) (nullary x) b g l m e f h = omega (arith, leaf_before r a x h)

flipped_not_numbered : Numbered bits flipped → ⊥
flipped_not_numbered n =
    let h : 0 < 2 = omega arith in
    let g : 1 < 2 = omega arith in
    not_risen n.round (n.first 0) (n.first 1) (n.earlier 0 h) (n.earlier 1 g) (n.allowed 0 h) (n.allowed 1 g) (n.leads 0 h) (n.leads 1 g) (n.rises 0 1 (omega arith) g)

-- ---- classes

-- both have the label 1
congruent_ones : Congruent bits zeros (leaf 1) (one 0 (leaf 1))
congruent_ones = same_state bits zeros solo solo_for (leaf 1) (one 0 (leaf 1)) refl (refl, refl) refl

reachable : Reachable bits spare
reachable =
    each 3 (λ s. (t : Tree) × Over bits t × (run spare t ≡ s))
    (((tt, (leaf 0, refl, refl)), (leaf 1, refl, refl)), (one 0 (leaf 1), (refl, refl), refl))

same_class : (p q : ℕ) → eqb p 0 ≡ eqb q 0 → joined p ≡ joined q
same_class p q e = grind (arith, nat_tests)

not_separate : Separate bits spare (λ s. s) → ⊥
not_separate s =
    incongruent bits zeros spare spare_for reachable (s 1 2 (omega arith) (omega arith) (λ e. omega arith)) (leaf 1) (one 0 (leaf 1)) refl (refl, refl) refl refl
    congruent_ones

stable : Stable bits spare joined
stable p q b d e (accept h) = h (grind (arith, nat_tests))
stable p q b d e (single a l h) = h (grind (arith, nat_tests))
stable p q b d e (left y a m l h) = h (grind (arith, nat_tests))
stable p q b d e (right y a m l h) = h (grind (arith, nat_tests))

quotient : Quotient bits spare joined solo
quotient =
    record {
      of = λ i. i;
      within = λ i h. omega arith;
      own = λ i h. omega arith;
      below = λ p h. omega arith;
      accepts = λ i h. refl;
      none = λ a l. omega (arith, ltb-true a 2 l);
      single = λ i a h l. let g = ltb-true a 2 l in grind (arith, nat_tests);
      double = λ i j a h k l. let g = ltb-true a 2 l in grind (arith, nat_tests);
    }

finite : Finite bits
finite = (2, λ k a l. ltb-true a 2 l)

apart : Apart bits zeros 2
apart =
    record {
      at = leaf;
      over = λ k h. lt-ltb k 2 h;
      apart = λ i j l h e. let x : eqb i 0 ≡ eqb j 0 = e place tt in omega (arith, same_bit i j (omega arith) h x);
    }

-- ---- two automata

same : Same bits solo changed
same = record { size = refl; accepts = λ s h. refl; steps = steps }
  where
    steps : (c : Combination) → Below 2 c → Allowed bits c → step solo c ≡ step changed c
    steps (nullary a) b l = omega (arith, ltb-true a 2 l)
    steps (unary p a) b l = refl
    steps (binary p q a) b l = refl

abbrev pairs : Pairs bits solo anything solo
pairs =
    record {
      left = λ s. s;
      right = λ s. 0;
      complete = solo_for.complete;
      numbered = solo_numbered;
      lefts = elim [ nullary a ↦ λ b l. refl | unary p a ↦ λ b l. refl | binary p q a ↦ λ b l. refl ];
      rights = elim [ nullary a ↦ λ b l. refl | unary p a ↦ λ b l. refl | binary p q a ↦ λ b l. refl ];
      once = λ i j h g e f. e;
    }

-- ---- lines

leads_back : {k : ℕ} → LeadsBack lines 2 k → (k ≡ 2) ⊎ (k ≡ 0)
leads_back itself = inl refl
leads_back (used j k b u) =
    inr (⊎_elim
    (λ e. ⊎_elim (λ x. x) (λ x. x) (subst (λ j. Uses (lines j) k) e u))
    (λ e. absurd (subst (λ j. Uses (lines j) k) e u))
    (leads_back b))

which_kept : (k : ℕ) → kept k ≡ true → (k ≡ 0) ⊎ (k ≡ 2)
which_kept k h = ⊎_elim (λ e. inl (eqb-true k 0 e)) (λ e. inr (eqb-true k 2 e)) (or_cases (eqb k 0) (eqb k 2) h)

renumbered : Renumbered lines 2 kept anew
renumbered =
    record {
      keeps = λ k. (
        λ h. ⊎_elim (λ e. subst (LeadsBack lines 2) (sym e) (used 2 0 itself (inl refl))) (λ e. subst (LeadsBack lines 2) (sym e) itself) (which_kept k h),
        λ h. ⊎_elim (ap kept) (ap kept) (leads_back h),
      );
      line = λ k h. ⊎_elim (λ e. rw e) (λ e. rw e) (which_kept k h);
    }

-- ---- atoms

atoms : Atoms quarters bits half double
atoms =
    record {
      to = λ k x h. lt-ltb (half x) 2 (omega (arith, ltb-true x 4 h));
      back = λ k a h. lt-ltb (double a) 4 (omega (arith, ltb-true a 2 h));
      own = λ k a h. omega arith;
      least = λ k x h. omega arith;
      rises = λ k a b h g l. omega arith;
    }

pub examples : Examples
examples =
    record {
      high = refl;
      plugged = refl;
      over = (refl, refl, (refl, refl));
      not_over = false≢true;
      congruent = same_state bits zeros solo solo_for (leaf 0) (one 0 (leaf 0)) refl (refl, refl) refl;
      incongruent = λ e. true≢false (e place tt);
      apart = apart;
      not_apart = λ x. let h = (apart_needs_states bits zeros solo 2 finite solo_for).0 x solo solo_for in omega arith;
      has = refl;
      normal = solo_normal;
      both_round_1 = (refl, refl);
      same = same;
      not_same = λ s. true≢false (s.accepts 0 (omega arith));
      flipped_for = flipped_for;
      flipped_not_numbered = flipped_not_numbered;
      spare_for = spare_for;
      spare_numbered = spare_numbered;
      spare_round_2 = refl;
      spare_not_normal = λ n. let e : ◌≡◌ {A = ℕ} 1 2 = n.reduced (leaf 1) (one 0 (leaf 1)) refl (refl, refl) congruent_ones in omega arith;
      reachable = reachable;
      refines = λ p q b d ne. inr (accept (λ e. ne (same_class p q e)));
      separate = λ p q b d ne. by_accepts p q (λ e. ne (same_class p q e));
      not_separate = not_separate;
      stable = stable;
      not_stable = λ s. s 0 1 (omega arith) (omega arith) refl (accept true≢false);
      quotient = quotient;
      can_have = (sets_by_rules rules ruled 2).0 refl;
      cannot_have = λ h. false≢true ((sets_by_rules rules ruled 1).1 h);
      accepted = (2, refl, (sets_by_rules rules ruled 2).0 refl);
      ordered = each 3 (λ k. Below k (lines k)) (((tt, tt), tt), (omega arith, omega arith));
      stands = (0, 0, refl, refl, refl);
      unused = λ h. ⊎_elim (λ e. omega arith) (λ e. omega arith) (leads_back h);
      renumbered = renumbered;
      pairs = pairs;
      first_split = record { found = omega arith; split = false≢true; before = each 1 (λ j. eqb j 0 ≡ true) (tt, refl) };
      atoms = atoms;
      normal_by_atoms = normal_over_labels quarters bits half double zeros (λ t. zeros (relabel half t)) solo atoms (λ t o. refl) solo_normal;
    }

-- Classes of states are parted until they are stable.
use Rattle.std.proofs.Common.{◌≡◌, ℕ, suc, ◌<◌, ◌≤◌, true, ◌⊎◌, sym, refl, ap, ◌∙◌, subst, inl, inr, ⊎_elim, arith}
use Rattle.std.proofs.lemmas.Bool.{cases_eq}
use Rattle.trees.specs.Trees.{Alphabet}
use Rattle.trees.specs.Automata.{Automaton, Complete}
use Rattle.trees.specs.Classes.{Separate, Tells, accept, single, left, right, Refines, Stable}
use Rattle.trees.specs.Theorems.{Finite}
use Rattle.trees.proofs.Pigeonhole.{at_most}
use Rattle.trees.proofs.Classes.{cases_same, refined_classes}
use Rattle.trees.proofs.Deciding.{Decided, by_same, decide_not, decide_or, decide_and, any_below, any_label, extend, extend_all, until}

-- m classes, each with a representative, and states of different classes are told apart
pub record Parted (σ : Alphabet) (A : Automaton) (m : ℕ) : Type 0 where
  pub class : ℕ → ℕ
  pub below : (p : ℕ) → p < A.size → class p < m
  pub of : ℕ → ℕ
  pub own : (i : ℕ) → i < m → (of i < A.size) × (class (of i) ≡ i)
  pub separate : Separate σ A class

-- ---- what the classes tell apart

module _ (σ : Alphabet) (A : Automaton) (class : ℕ → ℕ) where
  tells_not_itself : (p : ℕ) → Tells σ A class p p → ⊥
  tells_not_itself p (accept h) = h refl
  tells_not_itself p (single a l h) = h refl
  tells_not_itself p (left y a b l h) = h refl
  tells_not_itself p (right y a b l h) = h refl

  tells_back : (p q : ℕ) → Tells σ A class p q → Tells σ A class q p
  tells_back p q (accept h) = accept (λ e. h (sym e))
  tells_back p q (single a l h) = single a l (λ e. h (sym e))
  tells_back p q (left y a b l h) = left y a b l (λ e. h (sym e))
  tells_back p q (right y a b l h) = right y a b l (λ e. h (sym e))

  -- a third state is told apart from one of the two
  tells_third : (p q r : ℕ) → Tells σ A class p q → Tells σ A class p r ⊎ Tells σ A class r q
  tells_third p q r (accept h) =
      ⊎_elim (λ e. inl (accept (λ s. h (s ∙ e)))) (λ n. inr (accept n)) (cases_same (A.accepts r) (A.accepts q))
  tells_third p q r (single a l h) =
      ⊎_elim (λ e. inl (single a l (λ s. h (s ∙ e)))) (λ n. inr (single a l n)) (cases_eq (class (A.single r a)) (class (A.single q a)))
  tells_third p q r (left y a b l h) =
      ⊎_elim (λ e. inl (left y a b l (λ s. h (s ∙ e)))) (λ n. inr (left y a b l n)) (cases_eq (class (A.double r y a)) (class (A.double q y a)))
  tells_third p q r (right y a b l h) =
      ⊎_elim (λ e. inl (right y a b l (λ s. h (s ∙ e)))) (λ n. inr (right y a b l n)) (cases_eq (class (A.double y r a)) (class (A.double y q a)))

  module _ (finite : Finite σ) (p q : ℕ) where
    abbrev BySingle : Type 0
    BySingle = (a : ℕ) × (σ 1 a ≡ true) × (class (A.single p a) ≡ class (A.single q a) → ⊥)

    abbrev ByLeft : ℕ → Type 0
    ByLeft y = (a : ℕ) × (σ 2 a ≡ true) × (class (A.double p y a) ≡ class (A.double q y a) → ⊥)

    abbrev ByRight : ℕ → Type 0
    ByRight y = (a : ℕ) × (σ 2 a ≡ true) × (class (A.double y p a) ≡ class (A.double y q a) → ⊥)

    abbrev Listed : Type 0
    Listed = (A.accepts p ≡ A.accepts q → ⊥) ⊎ (BySingle ⊎ (((y : ℕ) × (y < A.size) × ByLeft y) ⊎ ((y : ℕ) × (y < A.size) × ByRight y)))

    tells : Listed → Tells σ A class p q
    tells (inl h) = accept h
    tells (inr (inl (a, l, h))) = single a l h
    tells (inr (inr (inl (y, b, (a, l, h))))) = left y a b l h
    tells (inr (inr (inr (y, b, (a, l, h))))) = right y a b l h

    listed : Tells σ A class p q → Listed
    listed (accept h) = inl h
    listed (single a l h) = inr (inl (a, l, h))
    listed (left y a b l h) = inr (inr (inl (y, b, (a, l, h))))
    listed (right y a b l h) = inr (inr (inr (y, b, (a, l, h))))

    differs : (x y : ℕ) → Decided (class x ≡ class y → ⊥)
    differs x y = decide_not (cases_eq (class x) (class y))

    decide_tells : Decided (Tells σ A class p q)
    decide_tells =
        by_same tells listed
        (decide_or (decide_not (cases_same (A.accepts p) (A.accepts q)))
        (decide_or (any_label σ finite 1 (λ a. class (A.single p a) ≡ class (A.single q a) → ⊥) (λ a. differs (A.single p a) (A.single q a)))
        (decide_or
        (any_below A.size ByLeft λ y. any_label σ finite 2 (λ a. class (A.double p y a) ≡ class (A.double q y a) → ⊥) (λ a. differs (A.double p y a) (A.double q y a)))
        (any_below A.size ByRight λ y. any_label σ finite 2 (λ a. class (A.double y p a) ≡ class (A.double y q a) → ⊥) (λ a. differs (A.double y p a) (A.double y q a))))))

-- ---- one class more

module _ (σ : Alphabet) (A : Automaton) (complete : Complete σ A) (finite : Finite σ) where
  parted_most : (m : ℕ) → Parted σ A m → m ≤ A.size
  parted_most m c =
      at_most A.size m c.of (λ i h. (c.own i h).0)
      (λ i j l h e. let x = (c.own i (omega arith)).1 in let y = (c.own j h).1 in let z = ap c.class e in omega arith)

  module _ (m : ℕ) (c : Parted σ A m) where
    -- the representative of a state's class
    abbrev rep : ℕ → ℕ
    rep p = c.of (c.class p)

    rep_own : (p : ℕ) → p < A.size → (rep p < A.size) × (c.class (rep p) ≡ c.class p)
    rep_own p h = c.own (c.class p) (c.below p h)

    abbrev Told : ℕ → ℕ → Type 0
    Told = Tells σ A c.class

    stable : ((p : ℕ) × (p < A.size) × Told (rep p) p → ⊥) → Stable σ A c.class
    stable none p q b d e t =
        ⊎_elim
        (λ h. none (p, b, tells_back σ A c.class p (rep p) h))
        (λ h. none (q, d, subst (λ i. Told (c.of i) q) e h))
        (tells_third σ A c.class p q (rep p) t)

    module _ (p : ℕ) (b : p < A.size) (told : Told (rep p) p) where
      -- the states of the class that are told apart from its representative
      abbrev Leaves : ℕ → Type 0
      Leaves z = (c.class z ≡ c.class p) × Told (rep p) z

      -- they make the new class m
      fine : (z : ℕ) → (x : ℕ) × ((Leaves z × (x ≡ m)) ⊎ ((Leaves z → ⊥) × (x ≡ c.class z)))
      fine z =
          ⊎_elim (λ h. (m, inl (h, refl))) (λ n. (c.class z, inr (n, refl)))
          (decide_and (cases_eq (c.class z) (c.class p)) (decide_tells σ A c.class finite (rep p) z))

      abbrev finer : ℕ → ℕ
      finer z = (fine z).0

      fine_new : (z : ℕ) → Leaves z → finer z ≡ m
      fine_new z h = ⊎_elim (λ x. x.1) (λ x. absurd (x.0 h)) (fine z).1

      fine_old : (z : ℕ) → (Leaves z → ⊥) → finer z ≡ c.class z
      fine_old z n = ⊎_elim (λ x. absurd (n x.0)) (λ x. x.1) (fine z).1

      fine_below : (z : ℕ) → z < A.size → finer z < suc m
      fine_below z h = let l = c.below z h in ⊎_elim (λ x. omega (arith, x.1)) (λ x. omega (arith, x.1)) (fine z).1

      -- where one of two states of the class leaves and the other stays, the classes tell them apart
      parts : (x y : ℕ) → c.class x ≡ c.class y → Leaves x → (Leaves y → ⊥) → Told x y
      parts x y e h n =
          ⊎_elim (λ t. absurd (n (sym e ∙ h.0, t))) (λ t. tells_back σ A c.class y x t) (tells_third σ A c.class (rep p) x y h.1)

      refines : Refines σ A c.class finer
      refines x y bx by ne =
          ⊎_elim
          (λ e.
          inr (⊎_elim
          (λ h. ⊎_elim (λ g. absurd (ne (h.1 ∙ sym g.1))) (λ g. parts x y e h.0 g.0) (fine y).1)
          (λ h.
          ⊎_elim
          (λ g. tells_back σ A c.class y x (parts y x (sym e) g.0 h.0))
          (λ g. absurd (ne (h.1 ∙ e ∙ sym g.1)))
          (fine y).1)
          (fine x).1))
          (λ n. inl n)
          (cases_eq (c.class x) (c.class y))

      stays : (i : ℕ) → i < m → Leaves (c.of i) → ⊥
      stays i h x =
          let e : i ≡ c.class p = sym (c.own i h).1 ∙ x.0 in
          tells_not_itself σ A c.class (rep p) (subst (λ j. Told (rep p) (c.of j)) e x.1)

      one_more : Parted σ A (suc m)
      one_more =
          record {
            class = finer;
            below = fine_below;
            of = extend m c.of p;
            own = extend_all (λ i q. (q < A.size) × (finer q ≡ i)) m c.of p
                (λ i h. ((c.own i h).0, fine_old (c.of i) (stays i h) ∙ (c.own i h).1))
                (b, fine_new p (refl, told));
            separate = refined_classes σ A c.class finer complete c.separate refines;
          }

  abbrev Done : Type 0
  Done = (m : ℕ) × (c : Parted σ A m) × Stable σ A c.class

  refine : (m : ℕ) → Parted σ A m → Done ⊎ Parted σ A (suc m)
  refine m c =
      ⊎_elim
      (λ x. inr (one_more m c x.0 x.1 x.2))
      (λ none. inl (m, c, stable m c none))
      (any_below A.size (λ p. Tells σ A c.class (rep m c p) p) (λ p. decide_tells σ A c.class finite (rep m c p) p))

  pub all_parted : 0 < A.size → (m : ℕ) × (c : Parted σ A m) × Stable σ A c.class
  all_parted h =
      until Done (Parted σ A) A.size parted_most refine A.size 1 (omega arith)
      (record {
        class = λ p. 0;
        below = λ p b. omega arith;
        of = λ i. 0;
        own = λ i l. (h, omega arith);
        separate = λ p q b d ne. absurd (ne refl);
      })

-- What can be decided by trying: numbers below a bound, labels of a finite alphabet, combinations.
use Rattle.std.proofs.Common.{◌≡◌, ℕ, zero, suc, ◌+◌, ◌<◌, ◌≤◌, true, cond, ltb, ◌⊎◌, subst, inl, inr, ⊎_elim, arith}
use Rattle.std.proofs.lemmas.Bool.{cases_lt, cases_Bool, both_ways, cond-true, cond-false, lt-ltb, le-ltb}
use Rattle.trees.specs.Trees.{Alphabet}
use Rattle.trees.specs.Rounds.{Combination, nullary, unary, binary, Allowed, Below}
use Rattle.trees.specs.Theorems.{Finite}

abbrev pub Decided : Type 0 → Type 0
Decided P = P ⊎ (P → ⊥)

pub by_same : {P Q : Type 0} → (P → Q) → (Q → P) → Decided P → Decided Q
by_same f g d = ⊎_elim (λ p. inl (f p)) (λ n. inr (λ q. n (g q))) d

pub decide_not : {P : Type 0} → Decided P → Decided (P → ⊥)
decide_not d = ⊎_elim (λ p. inr (λ n. n p)) (λ n. inl n) d

pub decide_or : {P Q : Type 0} → Decided P → Decided Q → Decided (P ⊎ Q)
decide_or d e = ⊎_elim (λ p. inl (inl p)) (λ n. ⊎_elim (λ q. inl (inr q)) (λ m. inr (⊎_elim n m)) e) d

pub decide_and : {P Q : Type 0} → Decided P → Decided Q → Decided (P × Q)
decide_and d e = ⊎_elim (λ p. ⊎_elim (λ q. inl (p, q)) (λ m. inr (λ b. m b.1)) e) (λ n. inr (λ b. n b.0)) d

pub any_below : (n : ℕ) (P : ℕ → Type 0) → ((k : ℕ) → Decided (P k)) → Decided ((k : ℕ) × (k < n) × P k)
any_below zero P d = inr (λ x. let l = x.1 in omega arith)
any_below (suc n) P d =
    by_same
    (⊎_elim (λ p. (n, omega arith, p)) (λ x. (x.0, omega (arith, x.1), x.2)))
    (λ x.
    ⊎_elim (λ l. inr (x.0, l, x.2)) (λ l. let e : x.0 ≡ n = omega (arith, x.1) in inl (subst P e x.2)) (cases_lt x.0 n))
    (decide_or (d n) (any_below n P d))

module _ (σ : Alphabet) (finite : Finite σ) where
  pub any_label : (k : ℕ) (P : ℕ → Type 0) → ((a : ℕ) → Decided (P a)) → Decided ((a : ℕ) × (σ k a ≡ true) × P a)
  any_label k P d =
      by_same
      (λ x. (x.0, x.2.0, x.2.1))
      (λ x. (x.0, finite.1 k x.0 x.1, (x.1, x.2)))
      (any_below finite.0 (λ a. (σ k a ≡ true) × P a) (λ a. decide_and (⊎_elim inl (λ f. inr (both_ways (σ k a) f)) (cases_Bool (σ k a))) (d a)))

  module _ (n : ℕ) (P : Combination → Type 0) where
    abbrev Some : Type 0
    Some = (c : Combination) × Below n c × Allowed σ c × P c

    abbrev OfOne : ℕ → Type 0
    OfOne p = (a : ℕ) × (σ 1 a ≡ true) × P (unary p a)

    abbrev OfTwo : ℕ → ℕ → Type 0
    OfTwo p q = (a : ℕ) × (σ 2 a ≡ true) × P (binary p q a)

    abbrev Listed : Type 0
    Listed = ((a : ℕ) × (σ 0 a ≡ true) × P (nullary a)) ⊎ (((p : ℕ) × (p < n) × OfOne p) ⊎ ((p : ℕ) × (p < n) × ((q : ℕ) × (q < n) × OfTwo p q)))

    some : Listed → Some
    some (inl (a, l, h)) = (nullary a, tt, l, h)
    some (inr (inl (p, b, (a, l, h)))) = (unary p a, b, l, h)
    some (inr (inr (p, b, (q, d, (a, l, h))))) = (binary p q a, (b, d), l, h)

    listed : (c : Combination) → Below n c → Allowed σ c → P c → Listed
    listed (nullary a) b l h = inl (a, l, h)
    listed (unary p a) b l h = inr (inl (p, b, (a, l, h)))
    listed (binary p q a) b l h = inr (inr (p, b.0, (q, b.1, (a, l, h))))

    pub any_combination : ((c : Combination) → Decided (P c)) → Decided ((c : Combination) × Below n c × Allowed σ c × P c)
    any_combination d =
        by_same some (λ x. listed x.0 x.1 x.2 x.3)
        (decide_or (any_label 0 (λ a. P (nullary a)) (λ a. d (nullary a)))
        (decide_or (any_below n OfOne (λ p. any_label 1 (λ a. P (unary p a)) (λ a. d (unary p a))))
        (any_below n (λ p. (q : ℕ) × (q < n) × OfTwo p q) (λ p. any_below n (OfTwo p) (λ q. any_label 2 (λ a. P (binary p q a)) (λ a. d (binary p q a)))))))

-- ---- one more at the end

abbrev pub extend : {X : Type 0} → ℕ → (ℕ → X) → X → ℕ → X
extend k f x i = cond (ltb i k) (f i) x

pub extend_old : {X : Type 0} (k : ℕ) (f : ℕ → X) (x : X) (i : ℕ) → i < k → extend k f x i ≡ f i
extend_old k f x i l = cond-true (ltb i k) (f i) x (lt-ltb i k l)

pub extend_all : {X : Type 0} (P : ℕ → X → Type 0) (k : ℕ) (f : ℕ → X) (x : X) → ((i : ℕ) → i < k → P i (f i)) → P k x → (i : ℕ) → i < suc k → P i (extend k f x i)
extend_all P k f x old new i l =
    ⊎_elim
    (λ h. rw (extend_old k f x i h) (old i h))
    (λ h. let e : i ≡ k = omega arith in rw (e, cond-false (ltb k k) (f k) x (le-ltb k k (omega arith))) new)
    (cases_lt i k)

-- What grows by one at a time, and never past n, comes to its goal.
pub until : (Goal : Type 0) (Sofar : ℕ → Type 0) (n : ℕ) → ((k : ℕ) → Sofar k → k ≤ n) → ((k : ℕ) → Sofar k → Goal ⊎ Sofar (suc k)) → (left k : ℕ) → n < k + left → Sofar k → Goal
until Goal Sofar n most more zero k h s = absurd (let l = most k s in omega arith)
until Goal Sofar n most more (suc left) k h s = ⊎_elim (λ g. g) (until Goal Sofar n most more left (suc k) (omega arith)) (more k s)

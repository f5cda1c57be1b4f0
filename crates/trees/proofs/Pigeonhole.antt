-- Of n numbers below m, m being less than n, two are the same.
use Rattle.std.proofs.Common.{◌≡◌, ℕ, zero, suc, ◌<◌, ◌≤◌, cond, eqb, ◌⊎◌, sym, ap, ◌∙◌, inl, inr, ⊎_elim, arith}
use Rattle.std.proofs.lemmas.Bool.{cases_lt, cases_eq}
use Rattle.std.proofs.lemmas.Bool.Decides.{nat_tests}

-- one of the first n is v, or none is
pub seek : (n : ℕ) (f : ℕ → ℕ) (v : ℕ) → ((i : ℕ) × (i < n) × (f i ≡ v)) ⊎ ((i : ℕ) → i < n → f i ≡ v → ⊥)
seek zero f v = inr (λ i h e. omega arith)
seek (suc n) f v =
    ⊎_elim
    (λ e. inl (n, omega arith, e))
    (λ ne.
    ⊎_elim
    (λ s. inl (s.0, let lt = s.1 in omega arith, s.2))
    (λ none. inr (λ i h e. ⊎_elim (λ lt. none i lt e) (λ le. let same : i ≡ n = omega arith in ne (ap f (sym same) ∙ e)) (cases_lt i n)))
    (seek n f v))
    (cases_eq (f n) v)

-- Where v is left out, m can take its place: numbers up to m become numbers below m.
abbrev squeeze : ℕ → ℕ → ℕ → ℕ
squeeze m v x = cond (eqb x m) v x

squeeze_below : (m v x : ℕ) → v < suc m → x < suc m → (x ≡ v → ⊥) → squeeze m v x < m
squeeze_below m v x l h ne = grind (arith, nat_tests)

squeeze_same : (m v x y : ℕ) → (x ≡ v → ⊥) → (y ≡ v → ⊥) → squeeze m v x ≡ squeeze m v y → x ≡ y
squeeze_same m v x y p q e = grind (arith, nat_tests)

pub pigeonhole : (m n : ℕ) (f : ℕ → ℕ) → ((k : ℕ) → k < n → f k < m) → m < n → (i : ℕ) × (j : ℕ) × (i < j) × (j < n) × (f i ≡ f j)
pigeonhole zero n f below less = absurd (let h = below 0 less in omega arith)
pigeonhole (suc m) zero f below less = absurd (omega arith)
pigeonhole (suc m) (suc n) f below less =
    let v = f n in
    ⊎_elim
    (λ s. (s.0, n, s.1, omega arith, s.2))
    (λ none.
    let r = pigeonhole m n (λ k. squeeze m v (f k)) (λ k h. squeeze_below m v (f k) (below n (omega arith)) (below k (omega arith)) (none k h)) (omega arith) in
    let lt = r.2 in
    let le = r.3 in
    (r.0, r.1, lt, omega arith, squeeze_same m v (f r.0) (f r.1) (none r.0 (omega arith)) (none r.1 le) r.4))
    (seek n f v)

-- So numbers below m, no two of them the same, are at most m.
pub at_most : (m n : ℕ) (f : ℕ → ℕ) → ((k : ℕ) → k < n → f k < m) → ((i j : ℕ) → i < j → j < n → f i ≡ f j → ⊥) → n ≤ m
at_most m n f below apart =
    ⊎_elim (λ less. absurd (let r = pigeonhole m n f below less in apart r.0 r.1 r.2 r.3 r.4)) (λ le. le) (cases_lt m n)

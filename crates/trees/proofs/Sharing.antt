-- Lines stand for one tree each, and keep it when the used ones are numbered anew.
use Rattle.std.proofs.Common.{◌≡◌, ℕ, zero, suc, ◌+◌, ◌<◌, ◌≤◌, Bool, true, false, cond, refl, ap, ◌∙◌, inl, inr, ⊎_elim, le_of_eq, arith}
use Rattle.std.proofs.lemmas.Bool.{cases_lt, cases_Bool, cond-true, cond-false}
use Rattle.trees.specs.Trees.{Tree, leaf, one, two}
use Rattle.trees.specs.Rounds.{Combination, nullary, unary, binary, Below}
use Rattle.trees.specs.Lines.{Stands, Uses, itself, used, rename, rank, Renumbered}
use Rattle.trees.specs.Theorems.{OneTree, LinesAnew}
use Rattle.trees.proofs.Growing.{tree_at, tree_has, tree_stands}

stands_once : (lines : ℕ → Combination) (t u : Tree) (j k : ℕ) → j ≡ k → Stands lines j t → Stands lines k u → u ≡ t
stands_once lines (leaf a) (leaf b) j k e h g = cc
stands_once lines (leaf a) (one b u) j k e h g = cc
stands_once lines (leaf a) (two b u v) j k e h g = cc
stands_once lines (one a t) (leaf b) j k e h g = cc
stands_once lines (one a t) (one b u) j k e h g = cc (stands_once lines t u h.0 g.0 (cc) h.2 g.2)
stands_once lines (one a t) (two b u v) j k e h g = cc
stands_once lines (two a t s) (leaf b) j k e h g = cc
stands_once lines (two a t s) (one b u) j k e h g = cc
stands_once lines (two a t s) (two b u v) j k e h g =
    cc (stands_once lines t u h.0 g.0 (cc) h.3 g.3, stands_once lines s v h.1 g.1 (cc) h.4 g.4)

pub one_tree : OneTree
one_tree n lines ordered k l =
    let stands = tree_has lines n (Stands lines) (λ s f l h. tree_stands f s lines s (lines s) refl (ordered s l) h) k l in
    (tree_at lines k, stands, λ u h. stands_once lines (tree_at lines k) u k k refl stands h)

-- ---- ranks

module _ (kept : ℕ → Bool) where
  rank_kept : (k : ℕ) → kept k ≡ true → rank kept (k + 1) ≡ rank kept k + 1
  rank_kept k h = let e : k + 1 ≡ suc k = omega arith in rw (e, h)

  rank_step : (n : ℕ) → rank kept n ≤ rank kept (suc n)
  rank_step n = elim (kept n) as (λ b. rank kept n ≤ cond b (rank kept n + 1) (rank kept n)) [ true ↦ omega arith | false ↦ omega arith ]

  rank_mono : (k n : ℕ) → k ≤ n → rank kept k ≤ rank kept n
  rank_mono k zero h = let e : k ≡ 0 = omega arith in rw e (omega arith)
  rank_mono k (suc n) h =
      ⊎_elim (λ l. omega (arith, rank_mono k n (omega arith), rank_step n)) (λ l. let e : k ≡ suc n = omega arith in le_of_eq (ap (rank kept) e)) (cases_lt k (suc n))

  rank_rises : (j k : ℕ) → kept j ≡ true → j < k → rank kept j < rank kept k
  rank_rises j k h l = omega (arith, rank_kept j h, rank_mono (j + 1) k (omega arith))

  -- every number below a rank is the rank of a kept number
  rank_of : (n j : ℕ) → j < rank kept n → (k : ℕ) × (k < n) × (kept k ≡ true) × (rank kept k ≡ j)
  rank_of zero j h = absurd (omega arith)
  rank_of (suc n) j h =
      ⊎_elim
      (λ l. let x = rank_of n j l in (x.0, omega (arith, x.1), x.2, x.3))
      (λ l.
      ⊎_elim
      (λ t. let up = cond-true (kept n) (rank kept n + 1) (rank kept n) t in (n, omega arith, t, omega arith))
      (λ f. let up = cond-false (kept n) (rank kept n + 1) (rank kept n) f in absurd (omega arith))
      (cases_Bool (kept n)))
      (cases_lt j (rank kept n))

module _ (lines : ℕ → Combination) (root : ℕ) (kept : ℕ → Bool) (anew : ℕ → Combination) (r : Renumbered lines root kept anew) where
  keep_used : (k p : ℕ) → kept k ≡ true → Uses (lines k) p → kept p ≡ true
  keep_used k p h u = (r.keeps p).1 (used k p ((r.keeps k).0 h) u)

  below_rank : (k : ℕ) (c : Combination) → Below k c → ((p : ℕ) → Uses c p → kept p ≡ true) → Below (rank kept k) (rename (rank kept) c)
  below_rank k (nullary a) b h = tt
  below_rank k (unary p a) b h = rank_rises kept p k (h p refl) b
  below_rank k (binary p q a) b h = (rank_rises kept p k (h p (inl refl)) b.0, rank_rises kept q k (h q (inr refl)) b.1)

  stands_anew : (t : Tree) (k : ℕ) → kept k ≡ true → Stands lines k t → Stands anew (rank kept k) t
  stands_anew (leaf a) k h s = r.line k h ∙ ap (rename (rank kept)) s
  stands_anew (one a t) k h (p, e, s) = (rank kept p, r.line k h ∙ ap (rename (rank kept)) e, stands_anew t p (keep_used k p h (rw e refl)) s)
  stands_anew (two a t u) k h (p, q, e, s, o) =
      (rank kept p, rank kept q, r.line k h ∙ ap (rename (rank kept)) e, stands_anew t p (keep_used k p h (rw e (inl refl))) s, stands_anew u q (keep_used k q h (rw e (inr refl))) o)

pub lines_anew : LinesAnew
lines_anew lines root kept anew ordered r =
    let self = (r.keeps root).1 itself in
    record {
      last = rank_kept kept root self;
      ordered = λ j h.
          let x = rank_of kept (root + 1) j h in
          let k = x.0 in
          rw (← x.3, r.line k x.2) (below_rank lines root kept anew r k (lines k) (ordered k x.1) (λ p u. keep_used lines root kept anew r k p x.2 u));
      stands = λ t. stands_anew lines root kept anew r t root self;
    }

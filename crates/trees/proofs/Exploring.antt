-- Over a finite alphabet a language with an automaton has one whose states are all reached by trees.
use Rattle.std.proofs.Common.{◌≡◌, ℕ, suc, ◌<◌, ◌≤◌, ◌⊎◌, sym, ap, ◌∙◌, ap₂, inl, inr, ⊎_elim, arith}
use Rattle.std.proofs.lemmas.Bool.{cases_eq, cases_order}
use Rattle.trees.specs.Trees.{Tree, leaf, one, two, Alphabet, Over, Language}
use Rattle.trees.specs.Automata.{Automaton, run, For}
use Rattle.trees.specs.Rounds.{Combination, nullary, unary, binary, step, Allowed, Below}
use Rattle.trees.specs.Lines.{rename}
use Rattle.trees.specs.Theorems.{Finite}
use Rattle.trees.proofs.Running.{run_below}
use Rattle.trees.proofs.Growing.{tree_of, tree_over}
use Rattle.trees.proofs.Pigeonhole.{at_most}
use Rattle.trees.proofs.Deciding.{Decided, decide_not, any_below, any_combination, extend, extend_old, extend_all, until}

-- an automaton for the language with a tree for each of its states
pub record Reached (σ : Alphabet) (L : Language) : Type 0 where
  pub automaton : Automaton
  pub for : For σ L automaton
  pub at : ℕ → Tree
  pub over : (s : ℕ) → s < automaton.size → Over σ (at s)
  pub has : (s : ℕ) → s < automaton.size → run automaton (at s) ≡ s

-- k trees, no two of which have one state
record Found (σ : Alphabet) (A : Automaton) (k : ℕ) : Type 0 where
  at : ℕ → Tree
  over : (i : ℕ) → i < k → Over σ (at i)
  apart : (i j : ℕ) → i < j → j < k → run A (at i) ≡ run A (at j) → ⊥

module _ (σ : Alphabet) (L : Language) (A : Automaton) (for : For σ L A) (finite : Finite σ) where
  found_most : (k : ℕ) → Found σ A k → k ≤ A.size
  found_most k f = at_most A.size k (λ i. run A (f.at i)) (λ i h. run_below σ A for.complete (f.at i) (f.over i h)) f.apart

  module _ (k : ℕ) (f : Found σ A k) where
    abbrev state : ℕ → ℕ
    state i = run A (f.at i)

    -- one of the trees has the state v
    abbrev Known : ℕ → Type 0
    Known v = (j : ℕ) × (j < k) × (state j ≡ v)

    known : (v : ℕ) → Decided (Known v)
    known v = any_below k (λ j. state j ≡ v) (λ j. cases_eq (state j) v)

    -- a combination of the trees has a state that none of them has
    abbrev Open : Type 0
    Open = (c : Combination) × Below k c × Allowed σ c × (Known (run A (tree_of f.at c)) → ⊥)

    one_more : Open → Found σ A (suc k)
    one_more x =
        let t = tree_of f.at x.0 in
        record {
          at = extend k f.at t;
          over = extend_all (λ i. Over σ) k f.at t f.over (tree_over f.at k σ x.0 x.1 x.2 f.over);
          apart = λ i j l h.
              let i<k : i < k = omega arith in
              rw (extend_old k f.at t i i<k)
              (extend_all (λ j u. i < j → state i ≡ run A u → ⊥) k f.at t (λ j h l. f.apart i j l h) (λ l e. x.3 (i, i<k, e)) j h l);
        }

    -- the place of a state
    index : (v : ℕ) → (j : ℕ) × (Known v → (j < k) × (state j ≡ v))
    index v = ⊎_elim (λ x. (x.0, λ y. (x.1, x.2))) (λ n. (0, λ y. absurd (n y))) (known v)

    abbrev part : Automaton
    part =
        record {
          size = k;
          none = λ a. (index (A.none a)).0;
          single = λ p a. (index (A.single (state p) a)).0;
          double = λ p q a. (index (A.double (state p) (state q) a)).0;
          accepts = λ p. A.accepts (state p);
        }

    module _ (closed : Open → ⊥) where
      all_known : (c : Combination) → Below k c → Allowed σ c → Known (run A (tree_of f.at c))
      all_known c b l = ⊎_elim (λ x. x) (λ n. absurd (closed (c, b, l, n))) (known (run A (tree_of f.at c)))

      settles : (c : Combination) → Below k c → Allowed σ c → (step part c < k) × (state (step part c) ≡ step A (rename state c))
      settles (nullary a) b l = (index (A.none a)).1 (all_known (nullary a) b l)
      settles (unary p a) b l = (index (A.single (state p) a)).1 (all_known (unary p a) b l)
      settles (binary p q a) b l = (index (A.double (state p) (state q) a)).1 (all_known (binary p q a) b l)

      follows : (t : Tree) → Over σ t → (run part t < k) × (state (run part t) ≡ run A t)
      follows (leaf a) o = settles (nullary a) tt o
      follows (one a t) o =
          let h = follows t o.1 in
          let s = settles (unary (run part t) a) h.0 o.0 in
          (s.0, s.1 ∙ ap (λ p. A.single p a) h.1)
      follows (two a t u) o =
          let h = follows t o.1 in
          let g = follows u o.2 in
          let s = settles (binary (run part t) (run part u) a) (h.0, g.0) o.0 in
          (s.0, s.1 ∙ ap₂ (λ p q. A.double p q a) h.1 g.1)

      same_place : (i j : ℕ) → i < k → j < k → state i ≡ state j → i ≡ j
      same_place i j b d e =
          ⊎_elim (λ s. s) (⊎_elim (λ l. absurd (f.apart i j l d e)) (λ l. absurd (f.apart j i l b (sym e)))) (cases_order i j)

      reached : Reached σ L
      reached =
          record {
            automaton = part;
            for = record {
              complete = record {
                none = λ a l. (settles (nullary a) tt l).0;
                single = λ p a b l. (settles (unary p a) b l).0;
                double = λ p q a b d l. (settles (binary p q a) (b, d) l).0;
              };
              exact = λ t o. ap A.accepts (follows t o).1 ∙ for.exact t o;
            };
            at = f.at;
            over = f.over;
            has = λ s h. let r = follows (f.at s) (f.over s h) in same_place (run part (f.at s)) s r.0 h r.1;
          }

  explore : (k : ℕ) → Found σ A k → Reached σ L ⊎ Found σ A (suc k)
  explore k f =
      ⊎_elim
      (λ x. inr (one_more k f x))
      (λ closed. inl (reached k f closed))
      (any_combination σ finite k (λ c. Known k f (run A (tree_of f.at c)) → ⊥) (λ c. decide_not (known k f (run A (tree_of f.at c)))))

  pub all_reached : Reached σ L
  all_reached =
      until (Reached σ L) (Found σ A) A.size found_most explore (suc A.size) 0 (omega arith)
      (record { at = λ i. leaf 0; over = λ i h. absurd (omega arith); apart = λ i j l h e. absurd (omega arith) })

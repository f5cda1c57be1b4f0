-- The states of trees.
use Rattle.std.proofs.Common.{◌≡◌, ℕ, ◌<◌, ◌≤◌, sym, refl, ap, ◌∙◌, arith}
use Rattle.trees.specs.Trees.{Tree, leaf, one, two, Alphabet, Over, Context, place, below, left_of, right_of, plug, Around, Language, Congruent}
use Rattle.trees.specs.Automata.{Automaton, Complete, run, For}
use Rattle.trees.specs.Rounds.{Combination, nullary, unary, binary, step, Allowed, Below}

pub run_below : (σ : Alphabet) (A : Automaton) → Complete σ A → (t : Tree) → Over σ t → run A t < A.size
run_below σ A c (leaf a) o = c.none a o
run_below σ A c (one a t) o = c.single (run A t) a (run_below σ A c t o.1) o.0
run_below σ A c (two a t u) o = c.double (run A t) (run A u) a (run_below σ A c t o.1) (run_below σ A c u o.2) o.0

pub step_below : (σ : Alphabet) (A : Automaton) → Complete σ A → (c : Combination) → Below A.size c → Allowed σ c → step A c < A.size
step_below σ A h (nullary a) b l = h.none a l
step_below σ A h (unary p a) b l = h.single p a b l
step_below σ A h (binary p q a) b l = h.double p q a b.0 b.1 l

pub below_wider : (m n : ℕ) → m ≤ n → (c : Combination) → Below m c → Below n c
below_wider m n h (nullary a) b = tt
below_wider m n h (unary p a) b = omega arith
below_wider m n h (binary p q a) b = omega arith

-- ---- the combination at the root

abbrev pub root : Automaton → Tree → Combination
root A (leaf a) = nullary a
root A (one a t) = unary (run A t) a
root A (two a t u) = binary (run A t) (run A u) a

pub root_step : (A : Automaton) (t : Tree) → step A (root A t) ≡ run A t
root_step A (leaf a) = refl
root_step A (one a t) = refl
root_step A (two a t u) = refl

pub root_allowed : (σ : Alphabet) (A : Automaton) (t : Tree) → Over σ t → Allowed σ (root A t)
root_allowed σ A (leaf a) o = o
root_allowed σ A (one a t) o = o.0
root_allowed σ A (two a t u) o = o.0

pub root_below : (σ : Alphabet) (A : Automaton) → Complete σ A → (t : Tree) → Over σ t → Below A.size (root A t)
root_below σ A c (leaf a) o = tt
root_below σ A c (one a t) o = run_below σ A c t o.1
root_below σ A c (two a t u) o = (run_below σ A c t o.1, run_below σ A c u o.2)

-- ---- trees in a context

pub over_plug : (σ : Alphabet) (c : Context) (t : Tree) → Around σ c → Over σ t → Over σ (plug c t)
over_plug σ place t h o = o
over_plug σ (below a c) t h o = (h.0, over_plug σ c t h.1 o)
over_plug σ (left_of a c u) t h o = (h.0, over_plug σ c t h.1 o, h.2)
over_plug σ (right_of a u c) t h o = (h.0, h.1, over_plug σ c t h.2 o)

pub run_plug : (A : Automaton) (c : Context) (t u : Tree) → run A t ≡ run A u → run A (plug c t) ≡ run A (plug c u)
run_plug A place t u e = e
run_plug A (below a c) t u e = ap (λ p. A.single p a) (run_plug A c t u e)
run_plug A (left_of a c v) t u e = ap (λ p. A.double p (run A v) a) (run_plug A c t u e)
run_plug A (right_of a v c) t u e = ap (λ p. A.double (run A v) p a) (run_plug A c t u e)

-- trees that an automaton for the language does not tell apart are congruent
pub same_state : (σ : Alphabet) (L : Language) (A : Automaton) → For σ L A → (t u : Tree) → Over σ t → Over σ u → run A t ≡ run A u → Congruent σ L t u
same_state σ L A for t u ot ou e c h =
    sym (for.exact (plug c t) (over_plug σ c t h ot)) ∙ ap A.accepts (run_plug A c t u e) ∙ for.exact (plug c u) (over_plug σ c u h ou)

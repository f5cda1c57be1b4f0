-- Classes of states: refining keeps congruent trees together, and stable classes are the states of the normal form.
use Rattle.std.proofs.Common.{◌≡◌, ℕ, ◌<◌, Bool, true, false, ◌⊎◌, sym, refl, ap, ◌∙◌, ap₂, inl, inr, ⊎_elim}
use Rattle.std.proofs.lemmas.Bool.{cases_eq, true≢false, false≢true}
use Rattle.trees.specs.Trees.{Tree, leaf, one, two, Alphabet, Over, Context, place, below, left_of, right_of, plug, Around, Language, Congruent}
use Rattle.trees.specs.Automata.{Automaton, Complete, run, For, Reachable}
use Rattle.trees.specs.Classes.{ToldApart, by_accepts, by_single, by_left, by_right, Separate, Tells, accept, single, left, right, Stable, Quotient}
use Rattle.trees.specs.Theorems.{RefinedClasses, SeparateClasses, StableClasses}
use Rattle.trees.proofs.Running.{run_below}

-- ---- what the classes tell apart is told apart

pub told : (σ : Alphabet) (A : Automaton) (class : ℕ → ℕ) → Complete σ A → Separate σ A class → (p q : ℕ) → p < A.size → q < A.size → Tells σ A class p q → ToldApart σ A p q
told σ A class c sep p q b d (accept h) = by_accepts p q h
told σ A class c sep p q b d (single a l h) =
    by_single p q a l (sep (A.single p a) (A.single q a) (c.single p a b l) (c.single q a d l) h)
told σ A class c sep p q b d (left y a m l h) =
    by_left p q y a m l (sep (A.double p y a) (A.double q y a) (c.double p y a b m l) (c.double q y a d m l) h)
told σ A class c sep p q b d (right y a m l h) =
    by_right p q y a m l (sep (A.double y p a) (A.double y q a) (c.double y p a m b l) (c.double y q a m d l) h)

pub refined_classes : RefinedClasses
refined_classes σ A class finer c sep refines p q b d ne =
    ⊎_elim (sep p q b d) (told σ A class c sep p q b d) (refines p q b d ne)

-- ---- congruent trees stay so in any context

abbrev around : Context → Context → Context
around place d = d
around (below a c) d = below a (around c d)
around (left_of a c u) d = left_of a (around c d) u
around (right_of a u c) d = right_of a u (around c d)

plug_around : (c d : Context) (t : Tree) → plug (around c d) t ≡ plug c (plug d t)
plug_around place d t = refl
plug_around (below a c) d t = ap (one a) (plug_around c d t)
plug_around (left_of a c u) d t = ap (λ s. two a s u) (plug_around c d t)
plug_around (right_of a u c) d t = ap (two a u) (plug_around c d t)

both_around : (σ : Alphabet) (c d : Context) → Around σ c → Around σ d → Around σ (around c d)
both_around σ place d h g = g
both_around σ (below a c) d h g = (h.0, both_around σ c d h.1 g)
both_around σ (left_of a c u) d h g = (h.0, both_around σ c d h.1 g, h.2)
both_around σ (right_of a u c) d h g = (h.0, h.1, both_around σ c d h.2 g)

congruent_plug : (σ : Alphabet) (L : Language) (d : Context) (t u : Tree) → Around σ d → Congruent σ L t u → Congruent σ L (plug d t) (plug d u)
congruent_plug σ L d t u g e c h =
    sym (ap L (plug_around c d t)) ∙ e (around c d) (both_around σ c d h g) ∙ ap L (plug_around c d u)

-- ---- trees whose states are told apart are not congruent

module _ (σ : Alphabet) (L : Language) (A : Automaton) (for : For σ L A) (reach : Reachable σ A) where
  pub incongruent : {p q : ℕ} → ToldApart σ A p q → (t u : Tree) → Over σ t → Over σ u → run A t ≡ p → run A u ≡ q → Congruent σ L t u → ⊥
  incongruent (by_accepts p q ne) t u ot ou i j e =
      ne (sym (ap A.accepts i) ∙ for.exact t ot ∙ e place tt ∙ sym (for.exact u ou) ∙ ap A.accepts j)
  incongruent (by_single p q a l d) t u ot ou i j e =
      incongruent d (one a t) (one a u) (l, ot) (l, ou) (ap (λ x. A.single x a) i) (ap (λ x. A.single x a) j)
      (congruent_plug σ L (below a place) t u (l, tt) e)
  incongruent (by_left p q y a m l d) t u ot ou i j e =
      let v = reach y m in
      incongruent d (two a t v.0) (two a u v.0) (l, ot, v.1) (l, ou, v.1)
      (ap₂ (λ x z. A.double x z a) i v.2) (ap₂ (λ x z. A.double x z a) j v.2)
      (congruent_plug σ L (left_of a place v.0) t u (l, tt, v.1) e)
  incongruent (by_right p q y a m l d) t u ot ou i j e =
      let v = reach y m in
      incongruent d (two a v.0 t) (two a v.0 u) (l, v.1, ot) (l, v.1, ou)
      (ap₂ (λ x z. A.double x z a) v.2 i) (ap₂ (λ x z. A.double x z a) v.2 j)
      (congruent_plug σ L (right_of a v.0 place) t u (l, v.1, tt) e)

pub separate_classes : SeparateClasses
separate_classes σ L A class for reach sep t u ot ou e =
    let p = run A t in
    let q = run A u in
    ⊎_elim
    (λ same. same)
    (λ ne.
    absurd (incongruent σ L A for reach (sep p q (run_below σ A for.complete t ot) (run_below σ A for.complete u ou) ne) t u ot ou refl refl e))
    (cases_eq (class p) (class q))

-- ---- the quotient by stable classes

pub cases_same : (a b : Bool) → (a ≡ b) ⊎ (a ≡ b → ⊥)
cases_same true true = inl refl
cases_same true false = inr true≢false
cases_same false true = inr false≢true
cases_same false false = inl refl

module _ (σ : Alphabet) (A : Automaton) (class : ℕ → ℕ) (stable : Stable σ A class) (p q : ℕ) (b : p < A.size) (d : q < A.size) (e : class p ≡ class q) where
  same_accepts : A.accepts p ≡ A.accepts q
  same_accepts = ⊎_elim (λ s. s) (λ ne. absurd (stable p q b d e (accept ne))) (cases_same (A.accepts p) (A.accepts q))

  same_single : (a : ℕ) → σ 1 a ≡ true → class (A.single p a) ≡ class (A.single q a)
  same_single a l =
      ⊎_elim (λ s. s) (λ ne. absurd (stable p q b d e (single a l ne))) (cases_eq (class (A.single p a)) (class (A.single q a)))

  same_left : (y a : ℕ) → y < A.size → σ 2 a ≡ true → class (A.double p y a) ≡ class (A.double q y a)
  same_left y a m l =
      ⊎_elim (λ s. s) (λ ne. absurd (stable p q b d e (left y a m l ne))) (cases_eq (class (A.double p y a)) (class (A.double q y a)))

  same_right : (y a : ℕ) → y < A.size → σ 2 a ≡ true → class (A.double y p a) ≡ class (A.double y q a)
  same_right y a m l =
      ⊎_elim (λ s. s) (λ ne. absurd (stable p q b d e (right y a m l ne))) (cases_eq (class (A.double y p a)) (class (A.double y q a)))

module _ (σ : Alphabet) (A B : Automaton) (class : ℕ → ℕ) (complete : Complete σ A) (stable : Stable σ A class) (q : Quotient σ A class B) where
  -- the representative of a state's class
  abbrev rep : ℕ → ℕ
  rep p = q.of (class p)

  rep_below : (p : ℕ) → p < A.size → rep p < A.size
  rep_below p h = q.within (class p) (q.below p h)

  rep_class : (p : ℕ) → p < A.size → class (rep p) ≡ class p
  rep_class p h = q.own (class p) (q.below p h)

  pub run_class : (t : Tree) → Over σ t → run B t ≡ class (run A t)
  run_class (leaf a) o = q.none a o
  run_class (one a t) o =
      let p = run A t in
      let b = run_below σ A complete t o.1 in
      ap (λ i. B.single i a) (run_class t o.1) ∙ q.single (class p) a (q.below p b) o.0
      ∙ same_single σ A class stable (rep p) p (rep_below p b) b (rep_class p b) a o.0
  run_class (two a t u) o =
      let x = run A t in
      let y = run A u in
      let b = run_below σ A complete t o.1 in
      let d = run_below σ A complete u o.2 in
      ap₂ (λ i j. B.double i j a) (run_class t o.1) (run_class u o.2) ∙ q.double (class x) (class y) a (q.below x b) (q.below y d) o.0
      ∙ same_left σ A class stable (rep x) x (rep_below x b) b (rep_class x b) (rep y) a (rep_below y d) o.0
      ∙ same_right σ A class stable (rep y) y (rep_below y d) d (rep_class y d) x a b o.0

  quotient_complete : Complete σ B
  quotient_complete =
      record {
        none = λ a l. rw (q.none a l) (q.below (A.none a) (complete.none a l));
        single = λ i a b l. rw (q.single i a b l) (q.below (A.single (q.of i) a) (complete.single (q.of i) a (q.within i b) l));
        double = λ i j a b d l.
            rw (q.double i j a b d l) (q.below (A.double (q.of i) (q.of j) a) (complete.double (q.of i) (q.of j) a (q.within i b) (q.within j d) l));
      }

  pub quotient_for : (L : Language) → For σ L A → For σ L B
  quotient_for L for =
      record {
        complete = quotient_complete;
        exact = λ t o.
            let p = run A t in
            let b = run_below σ A complete t o in
            ap B.accepts (run_class t o) ∙ q.accepts (class p) (q.below p b)
            ∙ same_accepts σ A class stable (rep p) p (rep_below p b) b (rep_class p b) ∙ for.exact t o;
      }

pub stable_classes : StableClasses
stable_classes σ L A B class for reach sep stable q n =
    let of-class = run_class σ A B class for.complete stable q in
    record {
      accepts = quotient_for σ A B class for.complete stable q L for;
      reduced = λ t u ot ou e. of-class t ot ∙ separate_classes σ L A class for reach sep t u ot ou e ∙ sym (of-class u ou);
      numbered = n;
    }

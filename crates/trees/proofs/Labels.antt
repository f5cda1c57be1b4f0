-- What holds over atoms holds over labels, when each atom is written as its least label.
use Rattle.std.proofs.Common.{◌≡◌, ℕ, ◌<◌, true, List, [], ◌∷◌, ◌++◌, length, get_or, sym, refl, ap, ◌∙◌, ap₂, inl, inr, ⊎_elim, arith}
use Rattle.std.proofs.lemmas.Bool.{cases_order}
use Rattle.trees.specs.Trees.{Tree, leaf, one, two, Alphabet, Over, Context, place, below, left_of, right_of, plug, Around, Language, Congruent}
use Rattle.trees.specs.Automata.{Automaton, Complete, run}
use Rattle.trees.specs.Rounds.{Combination, nullary, unary, binary, step, Allowed, Below, round_of, key, Less, Before, Numbered}
use Rattle.trees.specs.Normal.{NormalForm}
use Rattle.trees.specs.Letters.{Atoms, relabel, by_atoms, Corresponds}
use Rattle.trees.specs.Theorems.{NumberedOverLabels, NormalOverLabels}
use Rattle.trees.proofs.Running.{over_plug}

-- ---- combinations with other labels

abbrev kind : Combination → ℕ
kind (nullary a) = 0
kind (unary p a) = 1
kind (binary p q a) = 2

abbrev label_of : Combination → ℕ
label_of (nullary a) = a
label_of (unary p a) = a
label_of (binary p q a) = a

abbrev on : (ℕ → ℕ) → Combination → Combination
on f (nullary a) = nullary (f a)
on f (unary p a) = unary p (f a)
on f (binary p q a) = binary p q (f a)

allowed_label : (σ : Alphabet) (c : Combination) → Allowed σ c → σ (kind c) (label_of c) ≡ true
allowed_label σ (nullary a) h = h
allowed_label σ (unary p a) h = h
allowed_label σ (binary p q a) h = h

allowed_on : (σ τ : Alphabet) (f : ℕ → ℕ) → ((k a : ℕ) → τ k a ≡ true → σ k (f a) ≡ true) → (c : Combination) → Allowed τ c → Allowed σ (on f c)
allowed_on σ τ f h (nullary a) l = h 0 a l
allowed_on σ τ f h (unary p a) l = h 1 a l
allowed_on σ τ f h (binary p q a) l = h 2 a l

over_relabel : (σ τ : Alphabet) (f : ℕ → ℕ) → ((k a : ℕ) → τ k a ≡ true → σ k (f a) ≡ true) → (t : Tree) → Over τ t → Over σ (relabel f t)
over_relabel σ τ f h (leaf a) o = h 0 a o
over_relabel σ τ f h (one a t) o = (h 1 a o.0, over_relabel σ τ f h t o.1)
over_relabel σ τ f h (two a t u) o = (h 2 a o.0, over_relabel σ τ f h t o.1, over_relabel σ τ f h u o.2)

below_on : (n : ℕ) (f : ℕ → ℕ) (c : Combination) → Below n c → Below n (on f c)
below_on n f (nullary a) b = tt
below_on n f (unary p a) b = b
below_on n f (binary p q a) b = b

round_on : (r f : ℕ → ℕ) (c : Combination) → round_of r (on f c) ≡ round_of r c
round_on r f (nullary a) = refl
round_on r f (unary p a) = refl
round_on r f (binary p q a) = refl

step_on : (f : ℕ → ℕ) (A : Automaton) (c : Combination) → step A (on f c) ≡ step (by_atoms f A) c
step_on f A (nullary a) = refl
step_on f A (unary p a) = refl
step_on f A (binary p q a) = refl

kind_on : (f : ℕ → ℕ) (c : Combination) → kind (on f c) ≡ kind c
kind_on f (nullary a) = refl
kind_on f (unary p a) = refl
kind_on f (binary p q a) = refl

label_on : (f : ℕ → ℕ) (c : Combination) → label_of (on f c) ≡ f (label_of c)
label_on f (nullary a) = refl
label_on f (unary p a) = refl
label_on f (binary p q a) = refl

-- ---- the label is what the order of trying looks at last

front : (ℕ → ℕ) → Combination → List ℕ
front r (nullary a) = 1 ∷ 0 ∷ 0 ∷ 0 ∷ []
front r (unary p a) = round_of r (unary p a) ∷ 1 ∷ p ∷ 0 ∷ []
front r (binary p q a) = round_of r (binary p q a) ∷ 2 ∷ p ∷ q ∷ []

key_on : (r f : ℕ → ℕ) (c : Combination) → key r (on f c) ≡ front r c ++ (f (label_of c) ∷ [])
unfolding front
key_on r f (nullary a) = refl
key_on r f (unary p a) = refl
key_on r f (binary p q a) = refl

key_parts : (r : ℕ → ℕ) (c : Combination) → key r c ≡ front r c ++ (label_of c ∷ [])
unfolding front
key_parts r (nullary a) = refl
key_parts r (unary p a) = refl
key_parts r (binary p q a) = refl

front_kind : (r : ℕ → ℕ) (c : Combination) → get_or (front r c) 1 0 ≡ kind c
unfolding front
front_kind r (nullary a) = refl
front_kind r (unary p a) = refl
front_kind r (binary p q a) = refl

front_length : (r : ℕ → ℕ) (c : Combination) → length (front r c) ≡ 4
unfolding front
front_length r (nullary a) = refl
front_length r (unary p a) = refl
front_length r (binary p q a) = refl

less_last : (xs ys : List ℕ) (a b c d : ℕ) → length xs ≡ length ys → (xs ≡ ys → a < b → c < d) → Less (xs ++ (a ∷ [])) (ys ++ (b ∷ [])) → Less (xs ++ (c ∷ [])) (ys ++ (d ∷ []))
less_last [] [] a b c d e f h = ⊎_elim (λ l. inl (f refl l)) (λ l. absurd l.1) h
less_last [] (y ∷ ys) a b c d e f h = absurd (omega arith)
less_last (x ∷ xs) [] a b c d e f h = absurd (omega arith)
less_last (x ∷ xs) (y ∷ ys) a b c d e f h =
    ⊎_elim (λ l. inl l) (λ l. inr (l.0, less_last xs ys a b c d (omega arith) (λ s. f (ap₂ ◌∷◌ l.0 s)) l.1)) h

before_on : (r f : ℕ → ℕ) (c d : Combination) → (kind c ≡ kind d → label_of c < label_of d → f (label_of c) < f (label_of d)) → Before r c d → Before r (on f c) (on f d)
before_on r f c d rises h =
    rw (key_on r f c, key_on r f d)
    (less_last (front r c) (front r d) (label_of c) (label_of d) (f (label_of c)) (f (label_of d))
    (front_length r c ∙ sym (front_length r d))
    (λ e. rises (sym (front_kind r c) ∙ ap (λ xs. get_or xs 1 0) e ∙ front_kind r d))
    (rw (key_parts r c, key_parts r d) at h))

module _ (σ τ : Alphabet) (atom label : ℕ → ℕ) (atoms : Atoms σ τ atom label) where
  own_on : (c : Combination) → Allowed τ c → on atom (on label c) ≡ c
  own_on (nullary a) l = ap nullary (atoms.own 0 a l)
  own_on (unary p a) l = ap (unary p) (atoms.own 1 a l)
  own_on (binary p q a) l = ap (binary p q) (atoms.own 2 a l)

  -- a label below an atom's least belongs to an earlier atom
  atom_before : (k x b : ℕ) → σ k x ≡ true → τ k b ≡ true → x < label b → atom x < b
  atom_before k x b h l lt =
      let le = atoms.least k x h in
      ⊎_elim
      (λ e. absurd (let same = ap label e in omega arith))
      (λ o. ⊎_elim (λ less. less) (λ more. absurd (let up = atoms.rises k b (atom x) l (atoms.to k x h) more in omega arith)) o)
      (cases_order (atom x) b)

  pub numbered : (A : Automaton) → Numbered τ A → Numbered σ (by_atoms atom A)
  numbered A n =
      record {
        first = λ s. on label (n.first s);
        round = n.round;
        leads = λ s h. sym (step_on atom A (on label (n.first s))) ∙ ap (step A) (own_on (n.first s) (n.allowed s h)) ∙ n.leads s h;
        allowed = λ s h. allowed_on σ τ label atoms.back (n.first s) (n.allowed s h);
        earlier = λ s h. below_on s label (n.first s) (n.earlier s h);
        rounds = λ s h. n.rounds s h ∙ sym (round_on n.round label (n.first s));
        rises = λ s t l h.
            let c = n.first s in
            let d = n.first t in
            before_on n.round label c d
            (λ k. atoms.rises (kind d) (label_of c) (label_of d) (rw k at (allowed_label τ c (n.allowed s (omega arith)))) (allowed_label τ d (n.allowed t h)))
            (n.rises s t l h);
        least = λ s c h b l e before.
            let d = n.first s in
            let ld = n.allowed s h in
            let earlier = before_on n.round atom c (on label d)
            (λ k. rw (label_on label d, atoms.own (kind d) (label_of d) (allowed_label τ d ld)) (atom_before (kind d) (label_of c) (label_of d) (rw (k, kind_on label d) at (allowed_label σ c l)) (allowed_label τ d ld)))
            before in
            n.least s (on atom c) h (below_on A.size atom c b) (allowed_on τ σ atom atoms.to c l) (step_on atom A c ∙ e) (rw (own_on d ld) at earlier);
      }

  -- ---- trees with other labels

  own_tree : (t : Tree) → Over τ t → relabel atom (relabel label t) ≡ t
  own_tree (leaf a) o = ap leaf (atoms.own 0 a o)
  own_tree (one a t) o = ap₂ one (atoms.own 1 a o.0) (own_tree t o.1)
  own_tree (two a t u) o = cc (atoms.own 2 a o.0, own_tree t o.1, own_tree u o.2)

  run_atoms : (A : Automaton) (t : Tree) → run (by_atoms atom A) t ≡ run A (relabel atom t)
  run_atoms A (leaf a) = refl
  run_atoms A (one a t) = ap (λ p. A.single p (atom a)) (run_atoms A t)
  run_atoms A (two a t u) = ap₂ (λ p q. A.double p q (atom a)) (run_atoms A t) (run_atoms A u)

  over_atoms : (t : Tree) → Over σ t → Over τ (relabel atom t)
  over_atoms = over_relabel τ σ atom atoms.to

  over_labels : (t : Tree) → Over τ t → Over σ (relabel label t)
  over_labels = over_relabel σ τ label atoms.back

  -- the context with each atom's label
  abbrev spell : Context → Context
  spell place = place
  spell (below a c) = below (label a) (spell c)
  spell (left_of a c u) = left_of (label a) (spell c) (relabel label u)
  spell (right_of a u c) = right_of (label a) (relabel label u) (spell c)

  around_spell : (c : Context) → Around τ c → Around σ (spell c)
  around_spell place h = tt
  around_spell (below a c) h = (atoms.back 1 a h.0, around_spell c h.1)
  around_spell (left_of a c u) h = (atoms.back 2 a h.0, around_spell c h.1, over_labels u h.2)
  around_spell (right_of a u c) h = (atoms.back 2 a h.0, over_labels u h.1, around_spell c h.2)

  plug_spell : (c : Context) (t : Tree) → Around τ c → relabel atom (plug (spell c) t) ≡ plug c (relabel atom t)
  plug_spell place t h = refl
  plug_spell (below a c) t h = ap₂ one (atoms.own 1 a h.0) (plug_spell c t h.1)
  plug_spell (left_of a c u) t h = cc (atoms.own 2 a h.0, plug_spell c t h.1, own_tree u h.2)
  plug_spell (right_of a u c) t h = cc (atoms.own 2 a h.0, own_tree u h.1, plug_spell c t h.2)

  complete : (A : Automaton) → Complete τ A → Complete σ (by_atoms atom A)
  complete A h =
      record {
        none = λ x l. h.none (atom x) (atoms.to 0 x l);
        single = λ p x b l. h.single p (atom x) b (atoms.to 1 x l);
        double = λ p q x b d l. h.double p q (atom x) b d (atoms.to 2 x l);
      }

  module _ (L M : Language) (same : Corresponds σ atom L M) where
    in_context : (c : Context) (t : Tree) → Around τ c → Over σ t → M (plug (spell c) t) ≡ L (plug c (relabel atom t))
    in_context c t h o = same (plug (spell c) t) (over_plug σ (spell c) t (around_spell c h) o) ∙ ap L (plug_spell c t h)

    congruent_atoms : (t u : Tree) → Over σ t → Over σ u → Congruent σ M t u → Congruent τ L (relabel atom t) (relabel atom u)
    congruent_atoms t u ot ou e c h = sym (in_context c t h ot) ∙ e (spell c) (around_spell c h) ∙ in_context c u h ou

    pub normal : (A : Automaton) → NormalForm τ L A → NormalForm σ M (by_atoms atom A)
    normal A n =
        record {
          accepts = record {
            complete = complete A n.accepts.complete;
            exact = λ t o. ap A.accepts (run_atoms A t) ∙ n.accepts.exact (relabel atom t) (over_atoms t o) ∙ sym (same t o);
          };
          reduced = λ t u ot ou e.
              run_atoms A t ∙ n.reduced (relabel atom t) (relabel atom u) (over_atoms t ot) (over_atoms u ou) (congruent_atoms t u ot ou e) ∙ sym (run_atoms A u);
          numbered = numbered A n.numbered;
        }

pub numbered_over_labels : NumberedOverLabels
numbered_over_labels σ τ atom label A atoms complete n = numbered σ τ atom label atoms A n

pub normal_over_labels : NormalOverLabels
normal_over_labels σ τ atom label L M A atoms same n = normal σ τ atom label atoms L M same A n

-- The classes of states that nothing tells apart, numbered by rounds, are the normal form.
use Rattle.std.proofs.Common.{◌≡◌, ℕ, ◌<◌, Bool, eqb, List, length, get_or, Decides, sym, refl, ap, ◌∙◌, subst, ⊎_elim}
use Rattle.std.proofs.lemmas.Bool.{cases_eq}
use Rattle.trees.specs.Automata.{Automaton, Complete, For, Reachable, run}
use Rattle.trees.specs.Classes.{Separate, Tells, accept, single, left, right, Quotient}
use Rattle.trees.specs.Normal.{NormalForm}
use Rattle.trees.specs.Rounds.{Combination}
use Rattle.trees.specs.Trees.{Tree, leaf, one, two, Over, Language, letters}
use Rattle.trees.proofs.Classes.{stable_classes}
use Rattle.trees.proofs.Growing.{tree_at}
use Rattle.trees.proofs.Reaching.{reaches}
use Rattle.trees.proofs.Running.{run_below}
use Rattle.explore.specs.Listing.{numbers_of, Listed}
use Rattle.explore.specs.Places.{place_of}
use Rattle.explore.specs.Rounds.{entry_at}
use Rattle.explore.specs.Steps.{Steps, thing}
use Rattle.explore.proofs.Places.{place_at, place_is}
use Rattle.explore.proofs.Things.{run_thing}
use Rattle.minimize.specs.Minimized.{Minimal}
use Rattle.normal.specs.Classes.{class_of, rep_of, class_steps}
use Rattle.normal.specs.declared.class.Class.{Class}

module _ (n : ℕ) (A : Automaton) (classes reps : List ℕ) (count : ℕ) (least : Minimal n A classes reps count) (complete : Complete (letters n) A) where
  -- ---- states of one class step into one class

  abbrev class : ℕ → ℕ
  class p = get_or classes p 0

  agree : (x y : ℕ) → ((x ≡ y → ⊥) → ⊥) → x ≡ y
  agree x y never = ⊎_elim (λ same. same) (λ other. absurd (never other)) (cases_eq x y)

  rep : (p : ℕ) → p < A.size → (get_or reps (class p) 0 < A.size) × (class (get_or reps (class p) 0) ≡ class p)
  rep p h = (least.partition.within (class p) (least.partition.below p h), least.partition.own (class p) (least.partition.below p h))

  -- the thing of a tree is the class of its state
  pub class_thing : (t : Tree) → Over (letters n) t → thing (class_steps n A classes reps count) t ≡ class_of classes (run A t)
  class_thing (leaf a) o = refl
  class_thing (one a t) o =
      let p = run A t in
      let h = run_below (letters n) A complete t o.1 in
      let r = rep p h in
      ap (λ c. class_of classes (A.single (rep_of reps c) a)) (class_thing t o.1)
      ∙ ap (λ k. record { 0 = k }) (agree (class (A.single (get_or reps (class p) 0) a)) (class (A.single p a)) (λ other. least.stable (get_or reps (class p) 0) p r.0 h r.1 (single a o.0 other)))
  class_thing (two a t u) o =
      let p = run A t in
      let q = run A u in
      let hp = run_below (letters n) A complete t o.1 in
      let hq = run_below (letters n) A complete u o.2 in
      let rp = rep p hp in
      let rq = rep q hq in
      let x = get_or reps (class p) 0 in
      let y = get_or reps (class q) 0 in
      ap (λ c. class_of classes (A.double (rep_of reps c) (rep_of reps (thing (class_steps n A classes reps count) u)) a)) (class_thing t o.1)
      ∙ ap (λ c. class_of classes (A.double x (rep_of reps c) a)) (class_thing u o.2)
      ∙ ap (λ k. record { 0 = k }) (agree (class (A.double x y a)) (class (A.double p y a)) (λ other. least.stable x p rp.0 hp rp.1 (left y a rq.0 o.0 other)))
      ∙ ap (λ k. record { 0 = k }) (agree (class (A.double p y a)) (class (A.double p q a)) (λ other. least.stable y q rq.0 hq rq.1 (right p a hp o.0 other)))

  -- ---- the classes in the order of a list

  abbrev equal : Class → Class → Bool
  equal x y = eqb x.0 y.0

  abbrev steps : Steps Class
  steps = class_steps n A classes reps count

  module _ (exact : (x y : Class) → Decides (equal x y) (x ≡ y)) (order : List Class) (first : ℕ → Combination) (listed : Listed steps equal order first) (reachable : Reachable (letters n) A) where
    abbrev quotient : Automaton
    quotient = numbers_of steps equal order

    -- the number of a state's class
    abbrev number : ℕ → ℕ
    number p = place_of equal order (class_of classes p)

    place_entry : (k : ℕ) → k < length order → place_of equal order (entry_at steps order k) ≡ k
    place_entry k h = place_at equal exact order k (entry_at steps order k) (steps.none 0) h refl (λ i lt. listed.once i k lt h)

    -- a class of the list is the class of a tree's state
    of_tree : (t : Tree) → Over (letters n) t → entry_at steps order (run quotient t) ≡ class_of classes (run A t)
    of_tree t o = run_thing steps equal exact order listed.complete t o ∙ class_thing t o

    numbered_below : (p : ℕ) → p < A.size → number p < length order
    numbered_below p h =
        let t = reachable p h in
        let k = run quotient t.0 in
        let in' : k < length order = run_below (letters n) quotient listed.complete t.0 t.1 in
        let same : class_of classes p ≡ entry_at steps order k = sym (of_tree t.0 t.1 ∙ ap (class_of classes) t.2) in
        subst (λ m. m < length order) (sym (ap (place_of equal order) same ∙ place_entry k in')) in'

    entry_number : (p : ℕ) → p < A.size → entry_at steps order (number p) ≡ class_of classes p
    entry_number p h = place_is equal exact order (class_of classes p) (steps.none 0) (numbered_below p h)

    -- the classes of the list have representatives
    known : (i : ℕ) → i < length order → (entry_at steps order i).0 < count
    known i h =
        let t = tree_at listed.numbered.first i in
        let r = reaches listed.numbered i h in
        let same : entry_at steps order i ≡ class_of classes (run A t) = ap (entry_at steps order) (sym r.has) ∙ of_tree t r.over in
        subst (λ c. c.0 < count) (sym same) (least.partition.below (run A t) (run_below (letters n) A complete t r.over))

    back : (p q : ℕ) → p < A.size → q < A.size → number p ≡ number q → class p ≡ class q
    back p q hp hq same = ap (λ c. c.0) (sym (entry_number p hp) ∙ ap (entry_at steps order) same ∙ entry_number q hq)

    forth : (p q : ℕ) → class p ≡ class q → number p ≡ number q
    forth p q same = ap (λ k. place_of equal order (record { 0 = k })) same

    is_quotient : Quotient (letters n) A number quotient
    is_quotient = record {
      of = λ i. rep_of reps (entry_at steps order i);
      within = λ i h. least.partition.within (entry_at steps order i).0 (known i h);
      own = λ i h. ap (λ k. place_of equal order (record { 0 = k })) (least.partition.own (entry_at steps order i).0 (known i h)) ∙ place_entry i h;
      below = numbered_below;
      accepts = λ i h. refl;
      none = λ a l. refl;
      single = λ i a h l. refl;
      double = λ i j a h k l. refl;
    }

    separate : Separate (letters n) A number
    separate p q hp hq other = least.separate p q hp hq (λ same. other (forth p q same))

    tells : (p q : ℕ) → Tells (letters n) A number p q → Tells (letters n) A class p q
    tells p q (accept differ) = accept differ
    tells p q (single a l differ) = single a l (λ same. differ (forth (A.single p a) (A.single q a) same))
    tells p q (left y a h l differ) = left y a h l (λ same. differ (forth (A.double p y a) (A.double q y a) same))
    tells p q (right y a h l differ) = right y a h l (λ same. differ (forth (A.double y p a) (A.double y q a) same))

    pub quotient_normal : (L : Language) → For (letters n) L A → NormalForm (letters n) L quotient
    quotient_normal L for =
        stable_classes (letters n) L A quotient number for reachable separate (λ p q hp hq same told. least.stable p q hp hq (back p q hp hq same) (tells p q told)) is_quotient listed.numbered

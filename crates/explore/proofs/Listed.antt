-- The things found, as a list of them.
use Rattle.std.proofs.Common.{◌≡◌, ℕ, ◌<◌, ◌≤◌, Bool, List, length, take, Decides, sym, refl, ◌∙◌, subst, arith, length-take, get_or-take}
use Rattle.trees.specs.Automata.{Automaton, Complete}
use Rattle.trees.specs.Rounds.{Combination, nullary, unary, binary, step, Allowed, Below, Numbered}
use Rattle.trees.specs.Trees.{Alphabet, letters}
use Rattle.trees.proofs.Running
use Rattle.trees.proofs.Running.{step_below}
use Rattle.explore.specs.Steps.{Steps, apply}
use Rattle.explore.specs.Places.{place_of}
use Rattle.explore.specs.Firsts.{first_at}
use Rattle.explore.specs.Listing.{numbers_of, Listed}
use Rattle.explore.specs.Rounds.{Found, entry_at}
use Rattle.explore.specs.declared.numbering.Numbering.{Numbering}
use Rattle.explore.proofs.Places.{place_at}
use Rattle.explore.proofs.Progress.{apply_same}

-- ---- automata with the same steps

module _ (σ : Alphabet) (A B : Automaton) (size : B.size ≡ A.size) (same : (c : Combination) → Below A.size c → Allowed σ c → step B c ≡ step A c) (complete : Complete σ A) where
  to : (c : Combination) → Below B.size c → Below A.size c
  to c = subst (λ n. Below n c) size

  below : (c : Combination) → Below B.size c → Allowed σ c → step B c < B.size
  below c b l = rw (size, same c (to c b) l) (step_below σ A complete c (to c b) l)

  pub same_complete : Complete σ B
  same_complete = record {
    none = λ a l. below (nullary a) tt l;
    single = λ p a h l. below (unary p a) h l;
    double = λ p q a h k l. below (binary p q a) (h, k) l;
  }

  pub same_numbered : Numbered σ A → Numbered σ B
  same_numbered n =
      let in-a : (s : ℕ) → s < B.size → s < A.size = λ s h. omega arith in
      let wider : (s : ℕ) → s < B.size → Below A.size (n.first s) = λ s h. Running.below_wider s A.size (omega arith) (n.first s) (n.earlier s (in-a s h)) in
      record {
        first = n.first;
        round = n.round;
        leads = λ s h. same (n.first s) (wider s h) (n.allowed s (in-a s h)) ∙ n.leads s (in-a s h);
        allowed = λ s h. n.allowed s (in-a s h);
        earlier = λ s h. n.earlier s (in-a s h);
        rounds = λ s h. n.rounds s (in-a s h);
        rises = λ s t lt h. n.rises s t lt (in-a t h);
        least = λ s c h b l e. n.least s c (in-a s h) (to c b) l (sym (same c (to c b) l) ∙ e);
      }

-- ---- the list of what was found

module _ {E : Type 0} (S : Steps E) (equal : E → E → Bool) (exact : (x y : E) → Decides (equal x y) (x ≡ y)) (es : List E) (first : ℕ → Combination) (n : ℕ) (within : n ≤ length es) (found : Found S (entry_at S es) first n) where
  long : length (take n es) ≡ n
  long = simp length-take (omega arith)

  taken : (k : ℕ) → k < n → entry_at S (take n es) k ≡ entry_at S es k
  taken k h = rw get_or-take

  numbers_step : (c : Combination) → step (numbers_of S equal (take n es)) c ≡ place_of equal (take n es) (apply S (entry_at S (take n es)) c)
  numbers_step (nullary a) = refl
  numbers_step (unary p a) = refl
  numbers_step (binary p q a) = refl

  one_place : (c : Combination) → Below n c → Allowed (letters S.atoms) c → step (numbers_of S equal (take n es)) c ≡ step found.numbers c
  one_place c b l =
      let k = step found.numbers c in
      let h : k < n = subst (λ m. k < m) found.size (step_below (letters S.atoms) found.numbers found.complete c (subst (λ m. Below m c) (sym found.size) b) l) in
      let e = apply S (entry_at S (take n es)) c in
      let is : entry_at S (take n es) k ≡ e = taken k h ∙ found.steps c b l ∙ sym (apply_same S n (entry_at S (take n es)) (entry_at S es) taken c b) in
      numbers_step c ∙ place_at equal exact (take n es) k e (S.none 0) (omega (arith, long)) is (λ i lt at. found.once i k lt h (sym (taken i (omega arith)) ∙ at ∙ sym is ∙ taken k h))

  pub listed : Listed S equal (take n es) first
  unfolding same_numbered
  listed =
      let size : length (take n es) ≡ found.numbers.size = long ∙ sym found.size in
      let same : (c : Combination) → Below found.numbers.size c → Allowed (letters S.atoms) c → step (numbers_of S equal (take n es)) c ≡ step found.numbers c = λ c b. one_place c (subst (λ m. Below m c) found.size b) in
      record {
        complete = same_complete (letters S.atoms) found.numbers (numbers_of S equal (take n es)) size same found.complete;
        numbered = same_numbered (letters S.atoms) found.numbers (numbers_of S equal (take n es)) size same found.complete found.numbered;
        firsts = λ k h. found.firsts k (omega (arith, long));
        once = λ i j lt h e. found.once i j lt (omega (arith, long)) (sym (taken i (omega (arith, long))) ∙ e ∙ taken j (omega (arith, long)));
      }

-- as the caller finds the places when the numbering is gone
pub listed_at : {E : Type 0} (S : Steps E) (equal : E → E → Bool) (exact : (x y : E) → Decides (equal x y) (x ≡ y)) (t : Numbering E) (es : List E) (cells : List ℕ) (n : ℕ) → es ≡ t.entries.now → n ≡ t.len → Found S (entry_at S t.entries.now) (first_at cells) t.len → (n ≤ length es) × Listed S equal (take n es) (first_at cells)
listed_at S equal exact t es cells n places count found =
    rw (places, count) (t.within, listed S equal exact t.entries.now (first_at cells) t.len t.within found)

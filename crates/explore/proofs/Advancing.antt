-- A combination tried takes the search on by one position.
use Rattle.std.proofs.Common.{◌≡◌, ℕ, zero, suc, ◌+◌, ◌<◌, ◌≤◌, true, List, [], ◌∷◌, get_or, set, Ok, Err, Result, sym, refl, ap, ◌∙◌, subst, ⊎_elim, arith}
use Rattle.std.proofs.lemmas.List.{get_or_default}
use Rattle.std.proofs.lemmas.Bool.{ltb-true, lt-ltb}
use Rattle.trees.specs.Rounds.{Combination, nullary, unary, binary, Allowed, Below, key}
use Rattle.explore.specs.Steps.{Steps, Fit, apply, letters}
use Rattle.explore.specs.Firsts.{first_at}
use Rattle.explore.specs.Numbers.{At}
use Rattle.explore.specs.Rounds.{InRound, MoreThan, entry_at}
use Rattle.explore.specs.Search.{Grows, Tries, Turn, Stands, GoesOn, over, count, left, right}
use Rattle.explore.specs.declared.full.Full.{Full}
use Rattle.explore.specs.declared.numbering.Numbering.{Numbering}
use Rattle.explore.specs.declared.rounds.Round.{Round}
use Rattle.explore.specs.declared.trying.Children.{Children}
use Rattle.explore.proofs.Places.{before_new, at_new}
use Rattle.explore.proofs.Positions.{found_again, found_new, leaf_turn, single_turn, double_turn}
use Rattle.explore.proofs.Progress.{apply_same}
use Rattle.explore.proofs.Finding.{too_many}

-- ---- things that stay

pub grows_none : {E : Type 0} (s : Numbering E) → Grows s s
grows_none s = record { long = refl; more = omega arith; kept = λ k d h. refl; lent = refl }

pub grows_more : {E : Type 0} {s t u : Numbering E} → Grows s t → Grows t u → Grows s u
grows_more a b = record {
  long = b.long ∙ a.long;
  more = omega (arith, a.more, b.more);
  kept = λ k d h. b.kept k d (omega (arith, a.more)) ∙ a.kept k d h;
  lent = b.lent ∙ a.lent;
}

goes_more : {E : Type 0} (S : Steps E) (s t : Numbering E) (r : Round) (answer : Result (Unit {0}) Full) (u : Numbering E) (cells : List ℕ) (children p q a : ℕ) → Grows s t → GoesOn S t r answer u cells children p q a → GoesOn S s r answer u cells children p q a
goes_more S s t r (Ok done) u cells children p q a g h = (h.0, grows_more g h.1)
goes_more S s t r (Err full) u cells children p q a g h = subst (λ n. MoreThan n S) g.long h

-- ---- the children whose turn it is

turn_below : (r : Round) (c : Children) (a n : ℕ) → r.start ≤ n → Turn r c → Below n (over c a)
turn_below r Children.None a n known turn = tt
turn_below r (Children.One p) a n known turn = omega (arith, turn.1)
turn_below r (Children.Two p q) a n known turn = (omega (arith, turn.0), omega (arith, turn.1))

turn_key : {E : Type 0} {S : Steps E} {entry : ℕ → E} {first : ℕ → Combination} {n : ℕ} (r : Round) (c : Children) (a : ℕ) → Turn r c → (w : InRound S entry first n r.old r.start (count c) (left c) (right c) a) → key w.round (over c a) ≡ w.this ∷ count c ∷ left c ∷ right c ∷ a ∷ []
turn_key r Children.None a turn w = leaf_turn w refl refl refl
turn_key r (Children.One p) a turn w = single_turn w refl refl turn.0 turn.1
turn_key r (Children.Two p q) a turn w = double_turn w refl turn.0 turn.1 turn.2

allowed_label : (n : ℕ) (c : Children) (a : ℕ) → a < n → Allowed (letters n) (over c a)
allowed_label n Children.None a h = lt-ltb a n h
allowed_label n (Children.One p) a h = lt-ltb a n h
allowed_label n (Children.Two p q) a h = lt-ltb a n h

-- ---- the combination at the position

module _ {E : Type 0} (S : Steps E) (s : Numbering E) (cells : List ℕ) (r : Round) (c : Children) (a : ℕ) (turn : Turn r c) (stands : Stands S s cells r (count c) (left c) (right c) a) (label : a < S.atoms) (e : E) (is : e ≡ apply S (entry_at S s.entries.now) (over c a)) where
  abbrev way : InRound S (entry_at S s.entries.now) (first_at cells) s.len r.old r.start (count c) (left c) (right c) a
  way = stands.at

  -- what is not found is not there
  missing : ((k : ℕ) → k < s.len → ((d : E) → get_or s.entries.now k d ≡ e) → ⊥) → (k : ℕ) → k < s.len → entry_at S s.entries.now k ≡ apply S (entry_at S s.entries.now) (over c a) → ⊥
  missing new k h same = new k h (λ d. get_or_default s.entries.now k d (S.none 0) (omega (arith, s.within)) ∙ same ∙ sym is)

  tries_on : (answer : Result (Unit {0}) Full) (t : Numbering E) (after : List ℕ) → Tries s cells (over c a) e answer t after → GoesOn S s r answer t after (count c) (left c) (right c) (a + 1)
  tries_on (Ok done) t after tried =
      let b = turn_below r c a s.len way.ordered.1 turn in
      let l = allowed_label S.atoms c a label in
      let k = turn_key r c a turn way in
      let ds = s.entries.now in
      let room = stands.room in (
        ⊎_elim
            (λ old. record {
              room = rw (old.3, old.5) room;
              at = rw (old.3, old.4, old.5) (found_again way (over c a) b l k old.0 old.1 (old.2 (S.none 0) ∙ is));
            })
            (λ new. record {
              room = record { long = omega (arith, tried.1.long, room.long, new.4.long); small = omega (arith, tried.1.long, room.small) };
              at = rw (new.2, new.3) (found_new way (over c a) b l k (entry_at S (set ds s.len e)) (first_at after) (λ k h. before_new ds s.len e new.1 k (S.none 0) h) (at_new ds s.len e new.1 (S.none 0) ∙ is) new.4.kept new.4.here (missing new.0));
            })
            tried.0,
        tried.1,
      )
  tries_on (Err full) t after tried = subst (λ x. MoreThan x S) tried.1 (too_many way (over c a) (turn_below r c a s.len way.ordered.1 turn) (allowed_label S.atoms c a label) (turn_key r c a turn way) (missing tried.0))

-- from where the labels began
pub label_on : {E : Type 0} {S : Steps E} {s t : Numbering E} {cells : List ℕ} {r : Round} (c : Children) (a : ℕ) → Turn r c → r.start ≤ s.len → Stands S t cells r (count c) (left c) (right c) a → Grows s t → a < S.atoms → (e : E) → e ≡ apply S (entry_at S s.entries.now) (over c a) → (answer : Result (Unit {0}) Full) (u : Numbering E) (after : List ℕ) → Tries t cells (over c a) e answer u after → GoesOn S s r answer u after (count c) (left c) (right c) (a + 1)
label_on {S = S} {s = s} {t = t} {cells = cells} {r = r} c a turn known stands g label e is answer u after tried =
    let same = apply_same S s.len (entry_at S t.entries.now) (entry_at S s.entries.now) (λ k h. g.kept k (S.none 0) h) (over c a) (turn_below r c a s.len known turn) in
    goes_more S s t r answer u after (count c) (left c) (right c) (a + 1) g (tries_on S t cells r c a turn stands label e (is ∙ sym same) answer u after tried)

-- ---- all things found may be asked about

module _ {E : Type 0} {S : Steps E} (fit : Fit S) (entry : ℕ → E) (first : ℕ → Combination) (n : ℕ) (allowed : (k : ℕ) → k < n → Allowed (letters S.atoms) (first k)) (earlier : (k : ℕ) → k < n → Below k (first k)) (made : (k : ℕ) → k < n → entry k ≡ apply S entry (first k)) where
  fine_step : (k : ℕ) (c : Combination) → Below k c → Allowed (letters S.atoms) c → ((i : ℕ) → i < k → S.fine (entry i) ≡ true) → S.fine (apply S entry c) ≡ true
  fine_step k (nullary x) b l h = fit.none x (ltb-true x S.atoms l)
  fine_step k (unary i x) b l h = fit.single (entry i) x (h i b) (ltb-true x S.atoms l)
  fine_step k (binary i j x) b l h = fit.double (entry i) (entry j) x (h i b.0) (h j b.1) (ltb-true x S.atoms l)

  fine_below : (m k : ℕ) → k < m → k < n → S.fine (entry k) ≡ true
  fine_below zero k h i = absurd (omega arith)
  fine_below (suc m) k h i =
      ap S.fine (made k i) ∙ fine_step k (first k) (earlier k i) (allowed k i) (λ j lt. fine_below m j (omega arith) (omega arith))

  pub made_fine : (k : ℕ) → k < n → S.fine (entry k) ≡ true
  made_fine k h = fine_below (suc k) k (omega arith) h

pub all_fine : {E : Type 0} {S : Steps E} → Fit S → {entry : ℕ → E} {first : ℕ → Combination} {n old start children p q a : ℕ} → InRound S entry first n old start children p q a → (k : ℕ) → k < n → S.fine (entry k) ≡ true
all_fine fit {entry = entry} {first = first} {n = n} w = made_fine fit entry first n w.way.allowed w.way.earlier w.way.made

-- a thing that was got by its number
pub fine_at : {E : Type 0} {S : Steps E} {s : Numbering E} {cells : List ℕ} {r : Round} {children p q a : ℕ} → Fit S → Stands S s cells r children p q a → (k : ℕ) → k < s.len → (e : E) → At s.entries.now k e → S.fine e ≡ true
fine_at {S = S} fit stands k h e at = ap S.fine (sym (at (S.none 0))) ∙ all_fine fit stands.at k h

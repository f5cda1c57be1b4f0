-- What adding the value of a line makes of the kind.
use Rattle.std.proofs.Common.{◌≡◌, ℕ, ◌+◌, ◌-◌, ◌<◌, ◌≤◌, Bool, not, List, [], ◌∷◌, ◌++◌, map, length, drop, sym, refl, ap, ◌∙◌, subst, arith}
use Rattle.std.proofs.lemmas.List.{length-append, length-drop, length-map, drop_at, drop-drop, drop-map}
use Rattle.std.proofs.lemmas.Bool.{not-true, not-false}
use Rattle.labels.proofs.Tables.{joins_same}
use Rattle.labels.specs.Adding.{Book, Joins, Added}
use Rattle.text.specs.Tokens.{Sign, sign_of}
use Rattle.text.specs.declared.token.Token.{Token}
use Rattle.blocks.specs.Rows.{Format, Format.ranges, Format.tags, Format.patterns, Row, row, Writes, Takes, Refuses, Unread, Held, Stops, CanAdd, CannotAdd, labels, room}
use Rattle.blocks.specs.declared.refusal.Refusal.{Refusal}
use Rattle.blocks.specs.declared.refusal.Refusal.TheVariants.{TooLong, Line, Word, Guard, Value, Full, TooManyAtoms}
use Rattle.blocks.specs.declared.refusal.Stop.{Stop}
use Rattle.blocks.specs.declared.refusal.Stop.TheVariants.{Refused, Memory}

module _ {V : Type 0} {f : Format} {ss rest : List Sign} {n g : ℕ} (b : Book V) (v : V) (w : Writes f ss n g (b.formed v) (b.labels v) rest) (c : ℕ) (held : Held f b c) where
  -- there is room where the kind has some
  room_is : b.full [] g ≡ not (room f c)
  room_is = held [] g ∙ ap (λ k. not (room f k)) (let none : c + 0 ≡ c = omega arith in none)

  pub row_taken : (k : Book V) → CanAdd b g v → Added b g v k → Takes f b.meaning c ss k.meaning rest × Held f k (c + 1)
  row_taken k can added = (
    record {
      line = n;
      at = w.at;
      read = w.read;
      small = subst (λ h. h ≤ 31) w.guard can.small;
      good = sym w.good ∙ can.good;
      place = not-false (room f c) (sym room_is ∙ can.place);
      joins = subst (λ h. Joins b.meaning h (labels f w.at.first w.at.second) k.meaning) w.guard (joins_same (w.same can.good) added.meaning);
      left = w.left;
    },
    λ gs h. added.full gs h ∙ held (g ∷ gs) h ∙ ap (λ j. not (room f j)) (let next : c + length (g ∷ gs) ≡ c + 1 + length gs = omega arith in next),
  )

  row_refused : (x : Refusal) → CannotAdd b g v n x → Refuses f c ss x
  row_refused TooLong h = h
  row_refused (Line k) h = absurd h
  row_refused (Word k) h = absurd h
  row_refused (Guard k) h = subst (λ l. Refuses f c ss (Guard l)) (sym h.0) (w.at, w.read, subst (λ j. 31 < j) w.guard h.1)
  row_refused (Value k) h = subst (λ l. Refuses f c ss (Value l)) (sym h.0) (w.at, w.read, subst (λ j. j ≤ 31) w.guard h.1, sym w.good ∙ h.2)
  row_refused (Full k) h = subst (λ l. Refuses f c ss (Full l)) (sym h.0) (w.at, w.read, subst (λ j. j ≤ 31) w.guard h.1, sym w.good ∙ h.2, not-true (room f c) (sym room_is ∙ h.3))
  row_refused TooManyAtoms h = h

  pub row_stopped : (s : Stop) → Stops (CannotAdd b g v n) s → Stops (Refuses f c ss) s
  row_stopped (Refused x) h = row_refused x h
  row_stopped (Memory error) h = tt

unread_refused : (f : Format) (c : ℕ) (ss : List Sign) (x : Refusal) → Unread f ss x → Refuses f c ss x
unread_refused f c ss TooLong h = h
unread_refused f c ss (Line k) h = h
unread_refused f c ss (Word k) h = h
unread_refused f c ss (Guard k) h = absurd h
unread_refused f c ss (Value k) h = absurd h
unread_refused f c ss (Full k) h = absurd h
unread_refused f c ss TooManyAtoms h = h

pub unread_stopped : (f : Format) (c : ℕ) (ss : List Sign) (s : Stop) → Stops (Unread f ss) s → Stops (Refuses f c ss) s
unread_stopped f c ss (Refused x) h = unread_refused f c ss x h
unread_stopped f c ss (Memory error) h = tt

-- what is written goes by the kind's own form and labels
pub writes_by : {V : Type 0} {f : Format} {ss rest : List Sign} {n g : ℕ} (b : Book V) (form : V → Bool) (has : V → ℕ → Bool) (v : V) → b.formed ≡ form → b.labels ≡ has → Writes f ss n g (form v) (has v) rest → Writes f ss n g (b.formed v) (b.labels v) rest
writes_by b form has v p q w = record {
  at = w.at;
  read = w.read;
  guard = w.guard;
  good = ap (λ h. h v) p ∙ w.good;
  same = λ e x. ap (λ h. h v x) q ∙ w.same (sym (ap (λ h. h v) p) ∙ e) x;
  left = w.left;
}

-- ---- the place behind a row

row_some : (f : Format) (n i j k : ℕ) (g a b : List ℕ) → 0 < length (row f n i j k g a b)
row_some ranges n i j k g a b = omega arith
row_some tags n i j k g a b = omega arith
row_some patterns n i j k g a b = omega arith

module _ {f : Format} (ts : List Token) (at n : ℕ) (under : at < length ts) (r : Row f (map sign_of (drop at ts)) n) (rest : List Token) (left : r.rest ≡ map sign_of rest) where
  abbrev front : List Sign
  front = row f n r.i r.j r.k r.guard r.first r.second

  cut : drop at (map sign_of ts) ≡ front ++ map sign_of rest
  cut = drop-map sign_of at ts ∙ r.is ∙ ap (λ l. row f n r.i r.j r.k r.guard r.first r.second ++ l) left

  pub row_long : length rest + length front + at ≡ length ts
  row_long =
      let long = ap length cut ∙ length-append front (map sign_of rest) in
      let all = length-drop at (map sign_of ts) in
      let whole = length-map ts sign_of in
      let tail = length-map rest sign_of in
      omega arith

  pub row_next : (length rest ≤ length ts) × (length ts - length rest ≤ length ts) × (at < length ts - length rest)
  row_next =
      let long = row_long in
      let some = row_some f n r.i r.j r.k r.guard r.first r.second in
      (omega arith, omega arith, omega arith)

  pub row_left : r.rest ≡ map sign_of (drop (length ts - length rest) ts)
  row_left =
      let long = row_long in
      let place : length ts - length rest ≡ at + length front = omega arith in
      left ∙ sym (drop_at front (map sign_of rest) (length front) refl) ∙ sym (ap (drop (length front)) cut) ∙ drop-drop (length front) at (map sign_of ts) ∙ ap (λ k. drop k (map sign_of ts)) (sym place) ∙ drop-map sign_of (length ts - length rest) ts

pub rest_moved : {f : Format} {ss rest then : List Sign} {n g : ℕ} {form : Bool} {has : ℕ → Bool} → Writes f ss n g form has rest → rest ≡ then → Writes f ss n g form has then
rest_moved {f} {ss} {n = n} {g = g} {form = form} {has = has} w e = subst (Writes f ss n g form has) e w

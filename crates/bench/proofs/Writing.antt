-- What writing one shelf leaves of the others.
use Rattle.std.proofs.Common.{◌≡◌, ℕ, ◌+◌, ◌-◌, ◌*◌, ◌<◌, ◌≤◌, List, length, get_or, take, drop, sym, ap, ◌∙◌, subst, ⊎_elim, arith, rules, below_more}
use borrow.Rule.Slice.PartMut.{put_mid}
use Rattle.std.proofs.lemmas.List.{places, ext_get_or, length-take, length-drop}
use Rattle.std.proofs.lemmas.Slice.{between-put_mid}
use Rattle.std.proofs.lemmas.Bool.{cases_lt, cases_eq}
use Rattle.bench.specs.Shelves.{Sound, Fresh}
use Rattle.bench.specs.Benches.{shelves_in, shelf_at, AllSound}

-- a byte of a shelf
byte_at : (xs : List ℕ) (k i : ℕ) → i < 16945 → get_or (shelf_at xs k) i 0 ≡ get_or xs (k * 16945 + i) 0
byte_at xs k i l = search (rules, places)

pub length_shelf : (xs : List ℕ) (k : ℕ) → k < shelves_in (length xs) → length (shelf_at xs k) ≡ 16945
length_shelf xs k l = simp (length-take, length-drop) (omega arith)

-- lists that agree where a shelf stands have the same shelf there
same_shelf : (xs zs : List ℕ) (k : ℕ) → length zs ≡ length xs → ((i : ℕ) → k * 16945 ≤ i → i < k * 16945 + 16945 → get_or zs i 0 ≡ get_or xs i 0) → k < shelves_in (length xs) → shelf_at zs k ≡ shelf_at xs k
same_shelf xs zs k e h l =
    let long = length_shelf zs k (omega arith) in
    ext_get_or 0 (shelf_at zs k) (shelf_at xs k) (long ∙ sym (length_shelf xs k l))
    (λ i m. let n : i < 16945 = omega arith in byte_at zs k i n ∙ h (k * 16945 + i) (omega arith) (omega arith) ∙ sym (byte_at xs k i n))

-- ys of length w written over shelf k
module _ (xs ys : List ℕ) (k w : ℕ) (l : k < shelves_in (length xs)) (wide : w ≡ 16945) (long : length ys ≡ w) where
  within : k * 16945 + w ≤ length xs
  within = omega arith

  pub length_written : length (put_mid (k * 16945) w xs ys) ≡ length xs
  length_written = let fits = within in search (rules, places)

  pub below_written : (i : ℕ) → i < k * 16945 → get_or (put_mid (k * 16945) w xs ys) i 0 ≡ get_or xs i 0
  below_written i h = let fits = within in search (rules, places)

  pub past_written : (i : ℕ) → k * 16945 + w ≤ i → get_or (put_mid (k * 16945) w xs ys) i 0 ≡ get_or xs i 0
  past_written i h = let fits = within in search (rules, places)

  pub shelf_written : shelf_at (put_mid (k * 16945) w xs ys) k ≡ ys
  shelf_written =
      let fits = within in
      let zs = put_mid (k * 16945) w xs ys in
      let same : k * 16945 + w - k * 16945 ≡ 16945 = omega arith in
      sym (ap (λ n. take n (drop (k * 16945) zs)) same) ∙ between-put_mid (k * 16945) w xs ys (k * 16945 + w) (omega arith) (omega arith)

  pub shelf_other : (j : ℕ) → j < shelves_in (length xs) → (j ≡ k → ⊥) → shelf_at (put_mid (k * 16945) w xs ys) j ≡ shelf_at xs j
  shelf_other j h ne =
      ⊎_elim
      (λ lt. same_shelf xs (put_mid (k * 16945) w xs ys) j length_written (λ i m n. below_written i (omega arith)) h)
      (λ le. same_shelf xs (put_mid (k * 16945) w xs ys) j length_written (λ i m n. past_written i (omega arith)) h)
      (cases_lt j k)

-- a sound shelf written leaves all shelves sound
pub sound_written : (n : ℕ) (xs ys : List ℕ) (k w : ℕ) → k < shelves_in (length xs) → w ≡ 16945 → length ys ≡ w → AllSound n xs → ∥ Sound n ys ∥₁ → AllSound n (put_mid (k * 16945) w xs ys)
sound_written n xs ys k w l wide long all sound j m =
    let P : List ℕ → Type 0 = λ bs. ∥ Sound n bs ∥₁ in
    let same = length_written xs ys k w l wide long in
    ⊎_elim
    (λ e. subst (λ i. P (shelf_at (put_mid (k * 16945) w xs ys) i)) (sym e) (subst P (sym (shelf_written xs ys k w l wide long)) sound))
    (λ ne. subst P (sym (shelf_other xs ys k w l wide long j (omega arith) ne)) (all j (omega arith)))
    (cases_eq j k)

-- the first k shelves are fresh, and what lies past them is as it was
pub record ClearedTo (before : List ℕ) (k : ℕ) (after : List ℕ) : Type 0 where
  pub long : length after ≡ length before
  pub fresh : (j : ℕ) → j < k → Fresh (shelf_at after j)
  pub beyond : (i : ℕ) → k * 16945 ≤ i → get_or after i 0 ≡ get_or before i 0

pub one_cleared : (before xs ys : List ℕ) (k w : ℕ) → ClearedTo before k xs → k < shelves_in (length xs) → w ≡ 16945 → Fresh ys → ClearedTo before (k + 1) (put_mid (k * 16945) w xs ys)
one_cleared before xs ys k w h l wide f =
    let long : length ys ≡ w = f.long ∙ sym wide in
    record {
      long = length_written xs ys k w l wide long ∙ h.long;
      fresh = below_more (λ j. Fresh (shelf_at (put_mid (k * 16945) w xs ys) j)) k
          (λ j lt. subst Fresh (sym (shelf_other xs ys k w l wide long j (omega arith) (omega arith))) (h.fresh j lt))
          (subst Fresh (sym (shelf_written xs ys k w l wide long)) f);
      beyond = λ i m. past_written xs ys k w l wide long i (omega arith) ∙ h.beyond i (omega arith);
    }

-- The bytes of a bench, cut into shelves.
use Rattle.std.proofs.Common.{◌≡◌, ℕ, ◌+◌, ◌-◌, ◌*◌, ◌<◌, ◌≤◌, List, Some, None, Option, ltb, length, take, drop, sym, ap, ◌∙◌, subst, arith, MatchOption, is_some}
use Rattle.std.proofs.lemmas.Bool.{ltb-true, ltb-false}
use denote.Ref.{Bor}
use Rattle.std.specs.Option.{IfSome}
use Rattle.bench.specs.Benches.{shelves_in, AllSound, Stored}
use Rattle.bench.specs.Shelves.{Sound}
use Rattle.bench.proofs.Writing.{length_shelf}

-- the bytes of shelf k, if there is one
module _ (n : ℕ) (bs : List ℕ) (sound : AllSound n bs) (k m : ℕ) (count : m ≡ shelves_in (length bs)) where
  pub cut_stored : (r : Option (Bor (List ℕ))) → is_some r ≡ ltb k m → IfSome r (λ s. s.now ≡ take (k * 16945 + 16945 - k * 16945) (drop (k * 16945) bs)) → MatchOption r (shelves_in (length bs) ≤ k) (λ s. Stored n bs k s.now)
  cut_stored None e h = let past = ltb-false k m (sym e) in omega arith
  cut_stored (Some x) e h =
      let under = ltb-true k m (sym e) in
      let on : k < shelves_in (length bs) = omega arith in
      let wide : k * 16945 + 16945 - k * 16945 ≡ 16945 = omega arith in
      let same = h ∙ ap (λ n. take n (drop (k * 16945) bs)) wide in
      record { on = on; same = same; long = ap length same ∙ length_shelf bs k on; sound = subst (λ cs. ∥ Sound n cs ∥₁) (sym same) (sound k on) }

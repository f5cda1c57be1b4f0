-- The care mask and the value of a pattern, character by character.
use Rattle.std.proofs.Common.{◌≡◌, ℕ, zero, suc, ◌+◌, ◌*◌, ◌/◌, ◌%◌, ◌^◌, ◌<◌, ◌≤◌, true, false, ◌&&◌, ◌||◌, eqb, List, [], ◌∷◌, ◌++◌, length, get_or, take, drop, Some, sym, refl, ap, ◌∙◌, subst, ⊎_elim, mod-eq_of_lt, mul_assoc, pow-suc, add-one, arith, take-append-drop, pow_mono}
use lib.Bits.{bit_and, and_block, and_le_r, and_mod, and_zero_r}
use Rattle.std.proofs.Math.Bool.{and-false}
use Rattle.std.proofs.lemmas.Nat.{shr_split, mod_below, pow_pos, and_mask, mul-le, div-mul-add, mod-mul-add}
use Rattle.std.proofs.lemmas.List.{length_push, take_more, take_all, drop_more, length-take-le}
use Rattle.std.proofs.lemmas.Bool.{and_parts, and_from, or_cases, eqb-true, eq-eqb, cond_both}
use Rattle.std.proofs.lemmas.Bool.Decides.{same_from_decides, Decides-eqb, Decides-and, Decides-like}
use Rattle.labels.specs.Masks.{asks, one, Bit}
use Rattle.labels.specs.Patterns.{sign, signs, pattern_formed, agrees, matches}
use Rattle.labels.specs.Sets.{has}

-- the number whose bits f reads off the characters, highest first
abbrev pub spell : (ℕ → ℕ) → List ℕ → ℕ
spell f [] = 0
spell f (c ∷ cs) = f c * 2 ^ length cs + spell f cs

pub asks_small : (c : ℕ) → asks c ≤ 1
asks_small c = cond_both (eqb c 45) 0 1 (λ n. n ≤ 1) (λ e. omega arith) (λ e. omega arith)

pub one_small : (c : ℕ) → one c ≤ 1
one_small c = cond_both (eqb c 49) 1 0 (λ n. n ≤ 1) (λ e. omega arith) (λ e. omega arith)

module _ (f : ℕ → ℕ) (small : (c : ℕ) → f c ≤ 1) where
  pub spell_below : (cs : List ℕ) → spell f cs < 2 ^ length cs
  spell_below [] = omega arith
  spell_below (c ∷ cs) =
      let rest = spell_below cs in
      let first = mul-le (f c) (2 ^ length cs) 1 (2 ^ length cs) (small c) (omega arith) in
      let twice = pow-suc 2 (length cs) in
      omega arith

  pub spell_push : (cs : List ℕ) (c : ℕ) → spell f (cs ++ c ∷ []) ≡ spell f cs * 2 + f c
  spell_push [] c = omega arith
  spell_push (d ∷ cs) c =
      let rest = spell_push cs c in
      let long : 2 ^ length (cs ++ c ∷ []) ≡ 2 ^ length cs * 2 = ap (λ n. 2 ^ n) (length_push cs c ∙ add-one (length cs)) ∙ pow-suc 2 (length cs) in
      let first : f d * 2 ^ length (cs ++ c ∷ []) ≡ f d * 2 ^ length cs * 2 = ap (λ n. f d * n) long ∙ sym (mul_assoc (f d) (2 ^ length cs) 2) in
      omega arith

-- ---- one character

bit_cases : (c : ℕ) → sign c ≡ true → (P : ℕ → Type 0) → P 48 → P 49 → P 45 → P c
bit_cases c h P nought one' dash =
    let at : (n : ℕ) → eqb c n ≡ true → P n → P c = λ n e p. subst P (sym (eqb-true c n e)) p in
    ⊎_elim (λ e. at 48 e nought) (λ t. ⊎_elim (λ e. at 49 e one') (λ e. at 45 e dash) (or_cases (eqb c 49) (eqb c 45) t)) (or_cases (eqb c 48) (eqb c 49 || eqb c 45) h)

nought_digit : (z : ℕ) → z < 2 → eqb z 0 ≡ agrees 48 (eqb z 1)
nought_digit zero h = refl
nought_digit (suc zero) h = refl
nought_digit (suc (suc z)) h = absurd (omega arith)

one_digit : (z : ℕ) → z < 2 → eqb z 1 ≡ agrees 49 (eqb z 1)
one_digit zero h = refl
one_digit (suc zero) h = refl
one_digit (suc (suc z)) h = absurd (omega arith)

sign_digit : (c y : ℕ) → sign c ≡ true → eqb (bit_and y (asks c)) (one c) ≡ agrees c (eqb (y % 2) 1)
sign_digit c y h =
    let low = mod_below y 2 (omega arith) in
    bit_cases c h (λ d. eqb (bit_and y (asks d)) (one d) ≡ agrees d (eqb (y % 2) 1))
    (ap (λ n. eqb n 0) (and_mask y 1) ∙ nought_digit (y % 2) low)
    (ap (λ n. eqb n 1) (and_mask y 1) ∙ one_digit (y % 2) low)
    (ap (λ n. eqb n 0) (and_zero_r y))

-- ---- all characters

two_digits : (h q r v w : ℕ) → r < w → v < w → eqb (h * w + r) (q * w + v) ≡ (eqb h q && eqb r v)
two_digits h q r v w below under =
    same_from_decides (eqb (h * w + r) (q * w + v)) (eqb h q && eqb r v)
    (Decides-like (eqb (h * w + r) (q * w + v))
    (λ e. (sym (div-mul-add h w r below) ∙ ap (λ n. n / w) e ∙ div-mul-add q w v under, sym (mod-mul-add h w r below) ∙ ap (λ n. n % w) e ∙ mod-mul-add q w v under))
    (λ p. ap (λ n. n * w + r) p.0 ∙ ap (λ n. q * w + n) p.1)
    (Decides-eqb (h * w + r) (q * w + v)))
    (Decides-and (eqb h q) (eqb r v) (Decides-eqb h q) (Decides-eqb r v))

and_low : (x c k : ℕ) → c < 2 ^ k → bit_and (x % 2 ^ k) c ≡ bit_and x c
and_low x c k small =
    let less = and_le_r x c in
    ap (λ n. bit_and (x % 2 ^ k) n) (sym (mod-eq_of_lt small)) ∙ sym (and_mod x c k) ∙ mod-eq_of_lt (let low : bit_and x c < 2 ^ k = omega arith in low)

and_first : (x p c k : ℕ) → c < 2 ^ k → bit_and x (p * 2 ^ k + c) ≡ bit_and (x / 2 ^ k) p * 2 ^ k + bit_and x c
and_first x p c k small =
    ap (λ n. bit_and n (p * 2 ^ k + c)) (sym (shr_split x k)) ∙ and_block k (x / 2 ^ k) p (x % 2 ^ k) c (mod_below x (2 ^ k) (pow_pos k)) small
    ∙ ap (λ n. bit_and (x / 2 ^ k) p * 2 ^ k + n) (and_low x c k small)

pub spelled : (cs : List ℕ) → signs cs ≡ true → (x : ℕ) → eqb (bit_and x (spell asks cs)) (spell one cs) ≡ matches cs x
unfolding has
spelled [] s x = ap (λ n. eqb n 0) (and_zero_r x)
spelled (c ∷ cs) s x =
    let parts = and_parts (sign c) (signs cs) s in
    let k = length cs in
    let low = spell_below asks asks_small cs in
    let less = and_le_r x (spell asks cs) in
    ap (λ n. eqb n (one c * 2 ^ k + spell one cs)) (and_first x (asks c) (spell asks cs) k low)
    ∙ two_digits (bit_and (x / 2 ^ k) (asks c)) (one c) (bit_and x (spell asks cs)) (spell one cs) (2 ^ k) (omega arith) (spell_below one one_small cs)
    ∙ ap (λ b. b && eqb (bit_and x (spell asks cs)) (spell one cs)) (sign_digit c (x / 2 ^ k) parts.0)
    ∙ ap (λ b. agrees c (eqb (x / 2 ^ k % 2) 1) && b) (spelled cs parts.1 x)

-- ---- one character more

pub signs_push : (cs : List ℕ) (c : ℕ) → signs cs ≡ true → sign c ≡ true → signs (cs ++ c ∷ []) ≡ true
signs_push [] c s h = ap (λ b. b && true) h
signs_push (d ∷ cs) c s h =
    let parts = and_parts (sign d) (signs cs) s in
    ap (λ b. b && signs (cs ++ c ∷ [])) parts.0 ∙ signs_push cs c parts.1 h

-- a character that is no sign spoils the whole
pub signs_spoiled : (cs ds : List ℕ) (c : ℕ) → sign c ≡ false → signs (cs ++ c ∷ ds) ≡ false
signs_spoiled [] ds c h = ap (λ b. b && signs ds) h
signs_spoiled (d ∷ cs) ds c h = ap (λ b. sign d && b) (signs_spoiled cs ds c h) ∙ and-false (sign d)

-- what has been read of the first i characters
pub record Read (cs : List ℕ) (i care value : ℕ) : Type 0 where
  pub within : i ≤ length cs
  pub cared : care ≡ spell asks (take i cs)
  pub valued : value ≡ spell one (take i cs)
  pub signed : signs (take i cs) ≡ true

pub none_read : (cs : List ℕ) → Read cs 0 0 0
none_read cs = record { within = omega arith; cared = refl; valued = refl; signed = refl }

module _ {cs : List ℕ} {i care value : ℕ} (r : Read cs i care value) (more : i < length cs) where
  taken : take (i + 1) cs ≡ take i cs ++ get_or cs i 0 ∷ []
  taken = take_more cs i 0 more

  pub one_read : (p : ℕ × ℕ) → Bit (get_or cs i 0) (Some p) → Read cs (i + 1) (care * 2 + p.0) (value * 2 + p.1)
  one_read p b = record {
    within = omega arith;
    cared = ap (λ n. care * 2 + n) b.1 ∙ ap (λ n. n * 2 + asks (get_or cs i 0)) r.cared ∙ sym (ap (spell asks) taken ∙ spell_push asks asks_small (take i cs) (get_or cs i 0));
    valued = ap (λ n. value * 2 + n) b.2 ∙ ap (λ n. n * 2 + one (get_or cs i 0)) r.valued ∙ sym (ap (spell one) taken ∙ spell_push one one_small (take i cs) (get_or cs i 0));
    signed = ap signs taken ∙ signs_push (take i cs) (get_or cs i 0) r.signed b.0;
  }

  pub spoiled : sign (get_or cs i 0) ≡ false → signs cs ≡ false
  spoiled h = ap signs (sym (take-append-drop i cs) ∙ ap (λ l. take i cs ++ l) (drop_more cs i 0 more)) ∙ signs_spoiled (take i cs) (drop (i + 1) cs) (get_or cs i 0) h

  -- the numbers stay small
  pub room : length cs ≡ 16 → (care < 65536) × (value < 65536)
  room long =
      let wide : 2 ^ i ≤ 2 ^ 16 = pow_mono (let low : i ≤ 16 = omega arith in low) in
      let size = ap (λ n. 2 ^ n) (length-take-le i cs r.within) in
      let first = spell_below asks asks_small (take i cs) in
      let second = spell_below one one_small (take i cs) in
      let is = r.cared in
      let was = r.valued in
      (omega arith, omega arith)

pub all_read : (cs : List ℕ) (i care value : ℕ) → length cs ≡ 16 → length cs ≤ i → Read cs i care value → (pattern_formed cs ≡ true) × ((x : ℕ) → eqb (bit_and x care) value ≡ matches cs x)
all_read cs i care value long done r =
    let whole = take_all i cs done in
    let good = ap signs (sym whole) ∙ r.signed in (
      and_from (eqb (length cs) 16) (signs cs) (eq-eqb (length cs) 16 long) good,
      λ x. ap (λ n. eqb (bit_and x n) value) (r.cared ∙ ap (spell asks) whole) ∙ ap (eqb (bit_and x (spell asks cs))) (r.valued ∙ ap (spell one) whole) ∙ spelled cs good x,
    )

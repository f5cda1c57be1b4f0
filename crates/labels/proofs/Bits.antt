-- Laws of `has`: the bits of a number as a set.
use Rattle.std.proofs.Common.{◌≡◌, ℕ, zero, suc, ◌+◌, ◌-◌, ◌*◌, ◌/◌, ◌%◌, ◌^◌, ◌<◌, ◌≤◌, Bool, true, false, not, ◌&&◌, ◌||◌, min, eqb, ltb, Decides, sym, refl, ap, ◌∙◌, ⊎_elim, pow-suc, arith, pow_mono}
use lib.Arith.{bin_ind}
use lib.Bits.{bit_and, bit_or, and_shr, or_shr, and_mod, or_mod}
use native.Mathlib.Nat.{div-eq_of_lt, div_self}
use Rattle.std.proofs.Math.Bool.{and-true}
use Rattle.std.proofs.lemmas.Nat.{shr-shr, shl-shr, mod_below, pow_pos, pow-add, pow_below, one_shl, and_mask}
use Rattle.std.proofs.lemmas.Nat.Bits.{bit_at-lt, bit_at_ones, bit_at_not}
use Rattle.std.proofs.lemmas.Bool.{eqb-true, eqb-false, eq-eqb, ne_eqb, lt-ltb, le-ltb, cases_lt, cases_order, and_parts, both_ways}
use Rattle.std.proofs.lemmas.Bool.Decides.{nat_tests}
use Rattle.std.specs.Int.{bit_at, w32}
use Rattle.labels.specs.Sets.{has}

and_digit : (p q : ℕ) → p < 2 → q < 2 → eqb (bit_and p q) 1 ≡ (eqb p 1 && eqb q 1)
and_digit zero q hp hq = refl
and_digit (suc zero) zero hp hq = refl
and_digit (suc zero) (suc zero) hp hq = refl
and_digit (suc zero) (suc (suc q)) hp hq = absurd (omega arith)
and_digit (suc (suc p)) q hp hq = absurd (omega arith)

or_digit : (p q : ℕ) → p < 2 → q < 2 → eqb (bit_or p q) 1 ≡ (eqb p 1 || eqb q 1)
or_digit zero q hp hq = refl
or_digit (suc zero) zero hp hq = refl
or_digit (suc zero) (suc zero) hp hq = refl
or_digit (suc zero) (suc (suc q)) hp hq = absurd (omega arith)
or_digit (suc (suc p)) q hp hq = absurd (omega arith)

pub has_and : (a b g : ℕ) → has (bit_and a b) g ≡ (has a g && has b g)
unfolding has
has_and a b g =
    ap (λ n. eqb (n % 2) 1) (and_shr a b g) ∙ ap (λ n. eqb n 1) (and_mod (a / 2 ^ g) (b / 2 ^ g) 1)
    ∙ and_digit (a / 2 ^ g % 2) (b / 2 ^ g % 2) (mod_below _ 2 (omega arith)) (mod_below _ 2 (omega arith))

pub has_or : (a b g : ℕ) → has (bit_or a b) g ≡ (has a g || has b g)
unfolding has
has_or a b g =
    ap (λ n. eqb (n % 2) 1) (or_shr a b g) ∙ ap (λ n. eqb n 1) (or_mod (a / 2 ^ g) (b / 2 ^ g) 1)
    ∙ or_digit (a / 2 ^ g % 2) (b / 2 ^ g % 2) (mod_below _ 2 (omega arith)) (mod_below _ 2 (omega arith))

pub has_none : (g : ℕ) → has 0 g ≡ false
unfolding has
has_none g = ap (λ n. eqb (n % 2) 1) (div-eq_of_lt (pow_pos g))

-- no number below 2 ^ n has a bit from n up
pub has_past : (s n g : ℕ) → s < 2 ^ n → n ≤ g → has s g ≡ false
unfolding has
has_past s n g small up =
    let wide : 2 ^ n ≤ 2 ^ g = pow_mono up in
    let past : s < 2 ^ g = omega arith in
    ap (λ k. eqb (k % 2) 1) (div-eq_of_lt past)

-- no `u32` has a guard above 31
pub has_above : (s g : ℕ) → s < 2 ^ 32 → 32 ≤ g → has s g ≡ false
has_above s g small up = has_past s 32 g small up

-- the one bit of 2 ^ k
pub has_one : (k g : ℕ) → has (2 ^ k) g ≡ eqb g k
unfolding has
has_one k g =
    ⊎_elim
    (λ same. ap (λ n. eqb (n % 2) 1) (ap (λ n. 2 ^ k / 2 ^ n) same ∙ div_self (pow_pos k)) ∙ sym (eq-eqb g k same))
    (⊎_elim
    (λ under.
    let d : ℕ = k - g - 1 in
    let split : k ≡ suc d + g = omega arith in
    let high : 2 ^ k / 2 ^ g ≡ 2 ^ suc d = ap (λ n. n / 2 ^ g) (ap (λ n. 2 ^ n) split ∙ pow-add 2 (suc d) g) ∙ shl-shr (2 ^ suc d) g in
    let even : 2 ^ k / 2 ^ g % 2 ≡ 0 = ap (λ n. n % 2) (high ∙ pow-suc 2 d) ∙ omega arith in
    ap (λ n. eqb n 1) even ∙ sym (ne_eqb g k (omega arith)))
    (λ over. has_past (2 ^ k) (suc k) g (pow_below k (suc k) (omega arith)) over ∙ sym (ne_eqb g k (omega arith))))
    (cases_order g k)

pub has_half : (a g : ℕ) → has (a / 2) g ≡ has a (g + 1)
unfolding has
has_half a g =
    let turned : 1 + g ≡ g + 1 = omega arith in
    ap (λ n. eqb (n % 2) 1) (shr-shr a 1 g) ∙ ap (λ n. eqb (a / 2 ^ n % 2) 1) turned

low_bit : (b : ℕ) → has b 0 ≡ eqb (b % 2) 1
unfolding has
low_bit b = let whole : b / 1 ≡ b = omega arith in ap (λ n. eqb (n % 2) 1) whole

zero_by_bits : (b : ℕ) → ((g : ℕ) → has b g ≡ false) → b ≡ 0
zero_by_bits =
    bin_ind (λ b. ((g : ℕ) → has b g ≡ false) → b ≡ 0) (λ h. refl)
    (λ b ih h.
    let half : b / 2 ≡ 0 = ih (λ g. has_half b g ∙ h (g + 1)) in
    let even = eqb-false (b % 2) 1 (sym (low_bit b) ∙ h 0) in
    omega arith)

-- a number is known by its bits
pub same_by_bits : (a b : ℕ) → ((g : ℕ) → has a g ≡ has b g) → a ≡ b
same_by_bits =
    bin_ind (λ a. (b : ℕ) → ((g : ℕ) → has a g ≡ has b g) → a ≡ b)
    (λ b h. sym (zero_by_bits b (λ g. sym (h g) ∙ has_none g)))
    (λ a ih b h.
    let halves : a / 2 ≡ b / 2 = ih (b / 2) (λ g. has_half a g ∙ h (g + 1) ∙ sym (has_half b g)) in
    let low : eqb (a % 2) 1 ≡ eqb (b % 2) 1 = sym (low_bit a) ∙ h 0 ∙ low_bit b in
    grind (arith, nat_tests))

-- ---- what the tests of a set say

absorbs : (x y : Bool) → (y ≡ true → x ≡ true) → (x && y) ≡ y
absorbs true y h = refl
absorbs false true h = h refl
absorbs false false h = refl

clashes : (x y : Bool) → (y ≡ true → x ≡ false) → (x && y) ≡ false
clashes true true h = h refl
clashes true false h = refl
clashes false y h = refl

pub includes_decides : (s o : ℕ) → Decides (eqb (bit_and s o) o) ((g : ℕ) → has o g ≡ true → has s g ≡ true)
includes_decides s o = (
  λ e g inside. (and_parts (has s g) (has o g) (sym (has_and s o g) ∙ ap (λ n. has n g) (eqb-true (bit_and s o) o e) ∙ inside)).0,
  λ all. eq-eqb (bit_and s o) o (same_by_bits _ _ (λ g. has_and s o g ∙ absorbs (has s g) (has o g) (all g))),
)

apart : (x y : Bool) → (x && y) ≡ false → y ≡ true → x ≡ false
apart true y h e = absurd (both_ways y h e)
apart false y h e = refl

pub excludes_decides : (s o : ℕ) → Decides (eqb (bit_and s o) 0) ((g : ℕ) → has o g ≡ true → has s g ≡ false)
excludes_decides s o = (
  λ e g. apart (has s g) (has o g) (sym (has_and s o g) ∙ ap (λ n. has n g) (eqb-true (bit_and s o) 0 e) ∙ has_none g),
  λ all. eq-eqb (bit_and s o) 0 (same_by_bits _ _ (λ g. has_and s o g ∙ clashes (has s g) (has o g) (all g) ∙ sym (has_none g))),
)

-- `s | 1 << k`
pub has_with : (s k g : ℕ) → k < 32 → has (bit_or s (1 * 2 ^ k % 2 ^ 32)) g ≡ (has s g || (eqb g k && ltb k 32))
has_with s k g small =
    ap (λ n. has (bit_or s n) g) (one_shl k 32 small) ∙ has_or s (2 ^ k) g ∙ ap (λ b. has s g || b) (has_one k g ∙ sym (ap (λ b. eqb g k && b) (lt-ltb k 32 small) ∙ and-true (eqb g k)))

-- `(1 << k) - 1`
has_low : (k g : ℕ) → has (2 ^ k - 1) g ≡ ltb g k
unfolding has
has_low k g =
    let some = pow_pos k in
    ⊎_elim
    (λ under. ap (λ n. eqb n 1) (bit_at_ones k g under) ∙ sym (lt-ltb g k under))
    (λ past. has_past (2 ^ k - 1) k g (omega arith) past ∙ sym (le-ltb g k past))
    (cases_lt g k)

not_digit : (d : ℕ) → d < 2 → eqb (1 - d) 1 ≡ not (eqb d 1)
not_digit zero h = refl
not_digit (suc zero) h = refl
not_digit (suc (suc d)) h = absurd (omega arith)

has_not : (s g : ℕ) → s < 2 ^ 32 → g < 32 → has (2 ^ 32 - 1 - s) g ≡ not (has s g)
unfolding has
has_not s g small low = ap (λ n. eqb n 1) (bit_at_not w32 s g small low) ∙ not_digit (bit_at s g) (bit_at-lt s g)

-- `!s & below`, where `below` has the numbers below k, and no more than 32
pub has_others : (s k below g : ℕ) → s < 2 ^ 32 → below ≡ 2 ^ min k 32 - 1 → has (bit_and (2 ^ 32 - 1 - s) below) g ≡ (ltb g (min k 32) && not (has s g))
has_others s k below g small is =
    let both = has_and (2 ^ 32 - 1 - s) below g ∙ ap (λ n. has (2 ^ 32 - 1 - s) g && has n g) is ∙ ap (λ b. has (2 ^ 32 - 1 - s) g && b) (has_low (min k 32) g) in
    ⊎_elim
    (λ under. let turned = has_not s g small (omega arith) in grind (arith, nat_tests, both, turned))
    (λ past. grind (arith, nat_tests, both))
    (cases_lt g (min k 32))

-- `s >> k & 1 == 1`
pub has_shifted : (s k : ℕ) → eqb (bit_and (s / 2 ^ k) 1) 1 ≡ has s k
unfolding has
has_shifted s k = ap (λ n. eqb n 1) (and_mask (s / 2 ^ k) 1)

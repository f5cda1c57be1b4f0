-- What one turn over a word's digits keeps. Assumes nothing.
use Rattle.std.proofs.Common.{◌≡◌, ℕ, suc, ◌+◌, ◌-◌, ◌*◌, ◌^◌, ◌<◌, ◌≤◌, List, ◌∷◌, length, get_or, take, drop, Some, None, Option, sym, ap, ◌∙◌, subst, mul-le-mul_right, mul_assoc, add-mul, le-mul_of_pos_right, arith, SomeIff}
use native.Mathlib.Nat.{pow-succ', one-le-pow}
use Rattle.std.specs.Str.Parse.{digits_value, digits_value_after}
use Rattle.std.specs.Char.{digit_value}
use Rattle.std.specs.List.{All}
use Rattle.std.proofs.lemmas.List.Elements.{All-cons, All-tail, All-more}
use Rattle.std.proofs.lemmas.List.{drop_more, at_drop_more, at_drop_all, take_all}
use Rattle.std.proofs.lemmas.Bool.Decides.{nat_tests}
use Rattle.text.specs.Numbers.{DigitOf, Numeral}

-- the first i digits of the word are read, n is the number that they write, and there is room for the rest
pub record Read (base before : ℕ) (word : List ℕ) (i n : ℕ) : Type 0 where
  pub digits : All (DigitOf base) (take i word)
  pub same : digits_value_after base n (drop i word) ≡ digits_value_after base before word
  pub room : (n + 1) * base ^ length (drop i word) ≤ 2 ^ 32

module _ (base before : ℕ) (word : List ℕ) where
  module _ (i n : ℕ) (on : i < length word) (h : Read base before word i n) (is : DigitOf base (get_or word i 0)) where
    next : ℕ
    next = n * base + digit_value (get_or word i 0)

    room_more : (next + 1) * base ^ length (drop (i + 1) word) ≤ 2 ^ 32
    unfolding next
    room_more =
        let k = length (drop (i + 1) word) in
        let long : length (drop i word) ≡ suc k = ap length (drop_more word i 0 on) in
        let split : (n + 1) * base ^ length (drop i word) ≡ (n + 1) * base * base ^ k = ap (λ e. (n + 1) * base ^ e) long ∙ ap (λ p. (n + 1) * p) (pow-succ' base k) ∙ sym (mul_assoc (n + 1) base (base ^ k)) in
        let less : n * base + digit_value (get_or word i 0) + 1 ≤ (n + 1) * base = omega (arith, add-mul n 1 base, is.1) in
        omega (arith, split, h.room, mul-le-mul_right (base ^ k) less)

    pub read_more : Read base before word (i + 1) (n * base + digit_value (get_or word i 0))
    unfolding next
    read_more = record {
      digits = All-more (DigitOf base) word i 0 on h.digits is;
      same = sym (at_drop_more (digits_value_after base n) word i 0 on) ∙ h.same;
      room = room_more;
    }

    pub read_fits : n * base + digit_value (get_or word i 0) < 2 ^ 32
    unfolding next
    read_fits = omega (arith, room_more, le-mul_of_pos_right (next + 1) (one-le-pow (length (drop (i + 1) word)) base (omega (arith, is.1))))

  pub read_all : (i n : ℕ) → length word ≤ i → Read base before word i n → All (DigitOf base) word × (n ≡ digits_value_after base before word)
  read_all i n end h = (subst (All (DigitOf base)) (take_all i word end) h.digits, sym (at_drop_all (digits_value_after base n) word i end) ∙ h.same)

abbrev pub ReadAs : Option ℕ → List ℕ → Type 0
ReadAs r word = SomeIff r (Numeral word) (digits_value 10 word)

-- the digits behind a first one from 1 to 9 make a word of up to 5
pub longer_word : (first : ℕ) (rest : List ℕ) (r : Option ℕ) → (49 ≤ first) × (first ≤ 57) → length rest ≤ 4 → SomeIff r (All (DigitOf 10) rest) (digits_value_after 10 (first - 48) rest) → ReadAs r (first ∷ rest)
longer_word first rest None range few h = λ word. h (All-tail (DigitOf 10) first rest word.digits)
longer_word first rest (Some n) range few h =
    let same : 0 + digit_value first ≡ first - 48 = grind (arith, nat_tests) in (
      record { some = omega arith; few = omega arith; digits = All-cons (DigitOf 10) first rest (omega arith, omega (arith, same)) h.0; shortest = λ more. omega arith },
      h.1 ∙ ap (λ d. digits_value_after 10 d rest) (sym same),
    )

-- Which words are numbers. Assumes nothing.
use Rattle.std.specs.Prelude.{ℕ, ◌<◌, ◌≤◌, List, length, ◌≢◌, slice_index, All}
use Rattle.std.specs.Char.{digit_value}

-- a digit of the base, by its byte: 0 to 9, then the letters from A in upper case
abbrev pub DigitOf : ℕ → ℕ → Type 0
DigitOf base c = (c < 97) × (digit_value c < base)

-- 1 to 5 digits, the first of which is not 0 unless it is alone
pub record Numeral (word : List ℕ) : Type 0 where
  pub some : 1 ≤ length word
  pub few : length word ≤ 5
  pub digits : All (DigitOf 10) word
  pub shortest : 1 < length word → slice_index word 0 ≢ 48

-- 1 to 6 digits, with as many zeros in front as there is room for
pub record HexNumeral (word : List ℕ) : Type 0 where
  pub some : 1 ≤ length word
  pub few : length word ≤ 6
  pub digits : All (DigitOf 16) word

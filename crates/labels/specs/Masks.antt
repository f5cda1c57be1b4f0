-- A pattern as a care mask and a value.
use Rattle.std.specs.Prelude.{◌≡◌, ℕ, Bool, true, false, cond, List, Some, None, Option, ◌==◌, bit_and}
use Rattle.labels.specs.Patterns.{sign, matches}
use Rattle.labels.specs.declared.pattern.Pattern.{Pattern}

-- whether a character asks for its bit, and for which
abbrev pub asks : ℕ → ℕ
asks c = cond (c == 45) 0 1

abbrev pub one : ℕ → ℕ
one c = cond (c == 49) 1 0

abbrev pub Bit : ℕ → Option (ℕ × ℕ) → Type 0
Bit c None = sign c ≡ false
Bit c (Some p) = (sign c ≡ true) × (p.0 ≡ asks c) × (p.1 ≡ one c)

abbrev pub admits : Pattern → ℕ → Bool
admits p x = bit_and x p.care == p.value

-- the pattern admits the words that the characters match
abbrev pub Spells : List ℕ → Pattern → Type 0
Spells cs p = (x : ℕ) → admits p x ≡ matches cs x

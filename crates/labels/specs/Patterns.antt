-- Patterns of event words: a character for each of the 16 bits, highest bit first.
use Rattle.std.specs.Prelude.{ℕ, Bool, true, cond, ◌&&◌, ◌||◌, List, [], ◌∷◌, length, ◌==◌}
use Rattle.labels.specs.Sets.{has}

-- '0', '1' or '-'
abbrev pub sign : ℕ → Bool
sign c = c == 48 || (c == 49 || c == 45)

abbrev pub signs : List ℕ → Bool
signs [] = true
signs (c ∷ cs) = sign c && signs cs

abbrev pub pattern_formed : List ℕ → Bool
pattern_formed cs = length cs == 16 && signs cs

-- '0' and '1' ask for their bit, '-' takes either
abbrev pub agrees : ℕ → Bool → Bool
agrees c b = c == 45 || c == cond b 49 48

-- the character with k characters after it speaks of bit k
abbrev pub matches : List ℕ → ℕ → Bool
matches [] x = true
matches (c ∷ cs) x = agrees c (has x (length cs)) && matches cs x

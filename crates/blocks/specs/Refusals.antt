-- The number and the place of each refusal.
use Rattle.std.specs.Prelude.{ℕ}
use Rattle.blocks.specs.declared.refusal.Refusal.{Refusal}
use Rattle.blocks.specs.declared.refusal.Refusal.TheVariants.{TooLong, Line, Word, Guard, Value, Full, TooManyAtoms}

abbrev pub number_of : Refusal → ℕ
number_of TooLong = 3
number_of (Line n) = 1
number_of (Word n) = 2
number_of (Guard n) = 10
number_of (Value n) = 11
number_of (Full n) = 12
number_of TooManyAtoms = 20

-- the text line, or 0
abbrev pub place_of : Refusal → ℕ
place_of TooLong = 0
place_of (Line n) = n
place_of (Word n) = n
place_of (Guard n) = n
place_of (Value n) = n
place_of (Full n) = n
place_of TooManyAtoms = 0

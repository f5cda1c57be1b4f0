-- The value lines of a guard block.
use Rattle.std.specs.Prelude.{◌≡◌, ℕ, ◌+◌, ◌<◌, ◌≤◌, Bool, true, false, not, ◌&&◌, List, [], ◌∷◌, ◌++◌, length, ◌==◌, nat_le, nat_lt}
use Rattle.std.specs.Str.Parse.{digits_value}
use Rattle.labels.specs.Adding.{Book, Joins}
use Rattle.labels.specs.Meaning.{Meaning}
use Rattle.labels.specs.Patterns.{pattern_formed, matches}
use Rattle.labels.specs.Ranges.{code_label}
use Rattle.text.specs.Numbers.{Numeral, HexNumeral}
use Rattle.text.specs.Tokens.{Sign, Sign.word, Sign.line_end, line_of}
use Rattle.blocks.specs.declared.refusal.Stop.{Stop}
use Rattle.blocks.specs.declared.refusal.Stop.TheVariants.{Refused, Memory}
use Rattle.blocks.specs.declared.refusal.Refusal.{Refusal}
use Rattle.blocks.specs.declared.refusal.Refusal.TheVariants.{TooLong, Line, Word, Guard, Value, Full, TooManyAtoms}

-- what the guards are given by
pub data Format : Type 0 where
  ranges : Format
  tags : Format
  patterns : Format

-- the labels of the kind
abbrev pub label_of : Format → ℕ → Bool
label_of ranges = code_label
label_of tags = λ x. nat_lt x 64
label_of patterns = λ x. nat_lt x 65536

-- a line of the guard's word and the value's words, a and b, or a alone; in a scanned text n, i, j and k are one number
abbrev pub row : Format → ℕ → ℕ → ℕ → ℕ → List ℕ → List ℕ → List ℕ → List Sign
row ranges n i j k g a b = word g n ∷ word a i ∷ word b j ∷ line_end k ∷ []
row tags n i j k g a b = word g n ∷ word a i ∷ line_end k ∷ []
row patterns n i j k g a b = word g n ∷ word a i ∷ line_end k ∷ []

-- the value's words are of their columns' form
abbrev pub Spelt : Format → List ℕ → List ℕ → Type 0
Spelt ranges a b = HexNumeral a × HexNumeral b
Spelt tags a b = Numeral a
Spelt patterns a b = Unit {0}

-- the value is one of the kind's
abbrev pub formed : Format → List ℕ → List ℕ → Bool
formed ranges a b = nat_le (digits_value 16 a) (digits_value 16 b) && nat_le (digits_value 16 b) 0x10FFFF
formed tags a b = nat_lt (digits_value 10 a) 64
formed patterns a b = pattern_formed a

-- the value's labels
abbrev pub labels : Format → List ℕ → List ℕ → ℕ → Bool
labels ranges a b x = nat_le (digits_value 16 a) x && nat_le x (digits_value 16 b)
labels tags a b x = x == digits_value 10 a
labels patterns a b x = matches a x

-- there is a place for one value more after c values
abbrev pub room : Format → ℕ → Bool
room ranges c = nat_lt c 64
room tags c = true
room patterns c = nat_lt c 64

-- the signs begin with such a line
pub record Row (f : Format) (ss : List Sign) (n : ℕ) : Type 0 where
  pub guard : List ℕ
  pub first : List ℕ
  pub second : List ℕ
  pub i : ℕ
  pub j : ℕ
  pub k : ℕ
  pub rest : List Sign
  pub is : ss ≡ row f n i j k guard first second ++ rest

-- all words of the line are of their columns' form
abbrev pub Read : {f : Format} {ss : List Sign} {n : ℕ} → Row f ss n → Type 0
Read {f} r = Numeral r.guard × Spelt f r.first r.second

-- the first line is taken: it turns the meaning m, after c values, into k, and rest is left
pub record Takes (f : Format) (m : Meaning) (c : ℕ) (ss : List Sign) (k : Meaning) (rest : List Sign) : Type 0 where
  pub line : ℕ
  pub at : Row f ss line
  pub read : Read at
  pub small : digits_value 10 at.guard ≤ 31
  pub good : formed f at.first at.second ≡ true
  pub place : room f c ≡ true
  pub joins : Joins m (digits_value 10 at.guard) (labels f at.first at.second) k
  pub left : at.rest ≡ rest

-- the first line is refused for its form: it is no row, or a word of it is not of its column's form
abbrev pub Unread : Format → List Sign → Refusal → Type 0
Unread f ss TooLong = ⊥
Unread f ss (Line n) = ((k : ℕ) → Row f ss k → ⊥) × ((s : Sign) × (rest : List Sign) × (ss ≡ s ∷ rest) × (n ≡ line_of s))
Unread f ss (Word n) = (r : Row f ss n) × (Read r → ⊥)
Unread f ss (Guard n) = ⊥
Unread f ss (Value n) = ⊥
Unread f ss (Full n) = ⊥
Unread f ss TooManyAtoms = ⊥

-- the first line is refused, by the first check that fails
abbrev pub Refuses : Format → ℕ → List Sign → Refusal → Type 0
Refuses f c ss TooLong = ⊥
Refuses f c ss (Line n) = Unread f ss (Line n)
Refuses f c ss (Word n) = Unread f ss (Word n)
Refuses f c ss (Guard n) = (r : Row f ss n) × Read r × (31 < digits_value 10 r.guard)
Refuses f c ss (Value n) = (r : Row f ss n) × Read r × (digits_value 10 r.guard ≤ 31) × (formed f r.first r.second ≡ false)
Refuses f c ss (Full n) = (r : Row f ss n) × Read r × (digits_value 10 r.guard ≤ 31) × (formed f r.first r.second ≡ true) × (room f c ≡ false)
Refuses f c ss TooManyAtoms = ⊥

-- the words of a row write a value of this form and with these labels, for the guard g
pub record Writes (f : Format) (ss : List Sign) (n g : ℕ) (form : Bool) (has : ℕ → Bool) (rest : List Sign) : Type 0 where
  pub at : Row f ss n
  pub read : Read at
  pub guard : g ≡ digits_value 10 at.guard
  pub good : form ≡ formed f at.first at.second
  pub same : form ≡ true → (x : ℕ) → has x ≡ labels f at.first at.second x
  pub left : at.rest ≡ rest

-- whether a guard takes no further value goes by the number c of values so far
abbrev pub Held : {V : Type 0} → Format → Book V → ℕ → Type 0
Held f b c = (gs : List ℕ) (g : ℕ) → b.full gs g ≡ not (room f (c + length gs))

-- what stopped a reading, where it is not want of memory
abbrev pub Stops : (Refusal → Type 0) → Stop → Type 0
Stops P (Refused x) = P x
Stops P (Memory error) = Unit {0}

-- a guard can be given a value
pub record CanAdd {V : Type 0} (b : Book V) (g : ℕ) (v : V) : Type 0 where
  pub small : g ≤ 31
  pub good : b.formed v ≡ true
  pub place : b.full [] g ≡ false

-- a guard cannot be given a value that stands in line n
abbrev pub CannotAdd : {V : Type 0} → Book V → ℕ → V → ℕ → Refusal → Type 0
CannotAdd b g v n TooLong = ⊥
CannotAdd b g v n (Line k) = ⊥
CannotAdd b g v n (Word k) = ⊥
CannotAdd b g v n (Guard k) = (k ≡ n) × (31 < g)
CannotAdd b g v n (Value k) = (k ≡ n) × (g ≤ 31) × (b.formed v ≡ false)
CannotAdd b g v n (Full k) = (k ≡ n) × (g ≤ 31) × (b.formed v ≡ true) × (b.full [] g ≡ true)
CannotAdd b g v n TooManyAtoms = ⊥

-- two texts are one pattern, or neither is a pattern
pub record SamePattern (s t : List ℕ) : Type 0 where
  pub form : pattern_formed s ≡ pattern_formed t
  pub same : pattern_formed s ≡ true → s ≡ t

-- What the tokens of a text are. Assumes nothing.
use Rattle.std.specs.Prelude.{◌≡◌, ℕ, ◌+◌, ◌<◌, ◌≤◌, List, [], ◌∷◌, ◌++◌, map, length, Some, None, Option, ◌≢◌, slice_index_or, All}
use Rattle.text.specs.declared.token.Token.{Token}
use Rattle.text.specs.declared.token.Token.TheVariants.{Word, LineEnd, BlockEnd}

-- a token by what it holds: a word's bytes, and the line's number
pub data Sign : Type 0 where
  word : List ℕ → ℕ → Sign
  line_end : ℕ → Sign
  block_end : ℕ → Sign

abbrev pub sign_of : Token → Sign
sign_of (Word w n) = word w.now n
sign_of (LineEnd n) = line_end n
sign_of (BlockEnd n) = block_end n

-- the number of the line that it stands in
abbrev pub line_of : Sign → ℕ
line_of (word w n) = n
line_of (line_end n) = n
line_of (block_end n) = n

-- a byte of a word: 21 to 7E in hexadecimal
abbrev pub Visible : ℕ → Type 0
Visible c = (33 ≤ c) × (c ≤ 126)

-- one byte or more
abbrev pub GoodWord : List ℕ → Type 0
GoodWord w = (0 < length w) × All Visible w

-- the words of a line: at least one
abbrev pub Words : List (List ℕ) → Type 0
Words ws = (0 < length ws) × All GoodWord ws

-- the words with one space between neighbours
abbrev pub spaced : List (List ℕ) → List ℕ
spaced [] = []
spaced (w ∷ []) = w
spaced (w ∷ v ∷ ws) = w ++ 32 ∷ spaced (v ∷ ws)

-- the text's first line is not one of words
abbrev pub NoWords : List ℕ → Type 0
NoWords text = (ws : List (List ℕ)) (rest : List ℕ) → Words ws → text ≢ spaced ws ++ 10 ∷ rest

-- the text has a first line, which is neither empty nor one of words
pub record Bad (text : List ℕ) : Type 0 where
  pub some : 0 < length text
  pub no_blank : slice_index_or text 0 0 ≢ 10
  pub no_words : NoWords text

-- from line n on, the text gives these signs, up to its first bad line
pub data Scanned : ℕ → List ℕ → List Sign → Option ℕ → Type 0 where
  end : {n : ℕ} → Scanned n [] [] None
  words : {n : ℕ} (ws : List (List ℕ)) {rest : List ℕ} {ss : List Sign} {b : Option ℕ} → Words ws → Scanned (n + 1) rest ss b → Scanned n (spaced ws ++ 10 ∷ rest) (map (λ w. word w n) ws ++ line_end n ∷ ss) b
  blank : {n : ℕ} {rest : List ℕ} {ss : List Sign} {b : Option ℕ} → Scanned (n + 1) rest ss b → Scanned n (10 ∷ rest) (block_end n ∷ ss) b
  bad : {n : ℕ} {text : List ℕ} → Bad text → Scanned n text [] (Some n)

-- the tokens of the text's first line are added to those before, and `after` is the text behind that line
pub record LineAdded (n : ℕ) (text : List ℕ) (before since : List Token) (after : List ℕ) : Type 0 where
  pub more : List Token
  pub added : since ≡ before ++ more
  pub shorter : length after < length text
  pub goes_on : (ss : List Sign) (b : Option ℕ) → Scanned (n + 1) after ss b → Scanned n text (map sign_of more ++ ss) b

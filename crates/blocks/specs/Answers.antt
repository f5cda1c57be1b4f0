-- What a text is answered.
use Rattle.std.specs.Prelude.{◌≡◌, ℕ, ◌<◌, ◌≤◌, ◌⊎◌, List, [], ◌++◌, length, codes, Option, Result, String, string_bytes, MatchResult}
use Rattle.labels.specs.Meaning.{Meaning, Fresh}
use Rattle.atoms.specs.Atoms.{Lists, MoreThan}
use Rattle.atoms.specs.declared.atom.Atom.{Atom}
use Rattle.text.specs.Tokens.{Sign, Scanned}
use Rattle.blocks.specs.Printing.{table_text, refusal_text}
use Rattle.blocks.specs.Reading.{Outcome, Outcome.book, Outcome.refused, Reads}
use Rattle.blocks.specs.Rows.{Format, Format.ranges, Format.tags, Format.patterns, Stops, label_of, row}
use Rattle.blocks.specs.declared.refusal.Refusal.{Refusal}
use Rattle.blocks.specs.declared.refusal.Stop.{Stop}
use Rattle.blocks.specs.declared.refusal.Refusal.TheVariants.{TooLong, Line, TooManyAtoms}

-- the names of the value's columns
abbrev pub first_name : Format → List ℕ
first_name ranges = codes "low"
first_name tags = codes "tag"
first_name patterns = codes "pattern"

abbrev pub second_name : Format → List ℕ
second_name ranges = codes "high"
second_name tags = []
second_name patterns = []

-- the signs begin with the names line of the format
pub record Named (f : Format) (ss rest : List Sign) : Type 0 where
  pub n : ℕ
  pub i : ℕ
  pub j : ℕ
  pub k : ℕ
  pub is : ss ≡ row f n i j k (codes "guard") (first_name f) (second_name f) ++ rest

-- the guard block: a names line picks the kind, whose value lines follow; the names line is the first line of the text
pub data Says : List Sign → Option ℕ → Outcome → Type 0 where
  named : {f : Format} {m : Meaning} {ss rest : List Sign} {b : Option ℕ} {o : Outcome} → Named f ss rest → Fresh m (label_of f) → Reads f m 0 rest b o → Says ss b o
  unnamed : {ss : List Sign} {b : Option ℕ} → ((f : Format) (rest : List Sign) → Named f ss rest → ⊥) → Says ss b (refused (Line 1))

-- the outcome is refused: as it says, or for more than 16 atoms
abbrev pub Declines : Outcome → Refusal → Type 0
Declines (refused y) x = x ≡ y
Declines (book m) x = MoreThan 16 m × (x ≡ TooManyAtoms)

-- the table of all atoms is printed
abbrev pub Tabulates : Outcome → List ℕ → Type 0
Tabulates (refused y) out = ⊥
Tabulates (book m) out = (xs : List Atom) × (c : ℕ) × Lists m xs c × (c ≤ 16) × (out ≡ table_text xs m.guards c)

-- the table of an outcome with the property P, or its refusal
abbrev pub Gives : {Z : Type 0} → Result (String Z) Stop → (Outcome → Type 0) → Type 0
Gives r P = MatchResult r (λ s. (o : Outcome) × P o × Tabulates o (string_bytes s)) (Stops (λ x. (o : Outcome) × P o × Declines o x))

-- a text of at most 32,768 bytes has an outcome with the property P
pub record Spoken (text : List ℕ) (P : Outcome → Type 0) : Type 0 where
  pub short : length text ≤ 32768
  pub signs : List Sign
  pub bad : Option ℕ
  pub outcome : Outcome
  pub scanned : Scanned 1 text signs bad
  pub says : Says signs bad outcome
  pub holds : P outcome

-- a text is refused so
abbrev pub Refusing : List ℕ → Refusal → Type 0
Refusing text x = ((32768 < length text) × (x ≡ TooLong)) ⊎ Spoken text (λ o. Declines o x)

-- what is printed for a text: the table of the atoms of its guard book, or a refusal
abbrev pub Answers : List ℕ → List ℕ → Type 0
Answers text out = Spoken text (λ o. Tabulates o out) ⊎ ((x : Refusal) × Refusing text x × (out ≡ refusal_text x))

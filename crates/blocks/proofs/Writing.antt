-- Rows and the values that their words write.
use Rattle.std.proofs.Common.{◌≡◌, ℕ, ◌<◌, Bool, true, false, ◌&&◌, ◌||◌, eqb, ltb, leb, List, [], ◌∷◌, length, IsUtf8, Ok, Err, Result, Bor, MatchResult, sym, refl, ap, ◌∙◌, ⊎_elim, arith}
use Rattle.std.proofs.ByRecursion.{IsAscii-from_all}
use Rattle.std.proofs.lemmas.Str.{IsUtf8-from_ascii}
use Rattle.std.proofs.lemmas.Bool.{and_parts, or_cases, eqb-true, cases_Bool}
use Rattle.std.specs.Result.{ResultUnwrapsOrElse}
use Rattle.std.specs.Str.Parse.{digits_value}
use Rattle.std.specs.List.{AllByRecursion}
use Rattle.labels.specs.Patterns.{sign, signs, pattern_formed, matches}
use Rattle.labels.specs.Ranges.{range_formed, in_range}
use Rattle.text.specs.Numbers.{Numeral, HexNumeral}
use Rattle.text.specs.Tokens.{Sign, Sign.word, Sign.line_end}
use Rattle.blocks.specs.Rows.{Format.ranges, Format.tags, Format.patterns, Row, Read, Writes, SamePattern}

-- ---- rows of two words, and of three

module _ {ss rest : List Sign} {u v : List ℕ} {n i k : ℕ} (is : ss ≡ word u n ∷ word v i ∷ line_end k ∷ rest) where
  pub tag_row : Row tags ss n
  tag_row = record { guard = u; first = v; second = []; i = i; j = 0; k = k; rest = rest; is = is }

  pub pattern_row : Row patterns ss n
  pattern_row = record { guard = u; first = v; second = []; i = i; j = 0; k = k; rest = rest; is = is }

  pub tag_misspelt : (Numeral u × Numeral v → ⊥) → (r : Row tags ss n) × (Read r → ⊥)
  unfolding tag_row
  tag_misspelt none = (tag_row, none)

  pub pattern_misspelt : (Numeral u → ⊥) → (r : Row patterns ss n) × (Read r → ⊥)
  unfolding pattern_row
  pattern_misspelt none = (pattern_row, λ r. none r.0)

  pub tag_written : (g t : ℕ) → Numeral u → g ≡ digits_value 10 u → Numeral v → t ≡ digits_value 10 v → Writes tags ss n g (ltb t 64) (λ x. eqb x t) rest
  unfolding tag_row
  tag_written g t first guard second tag = record { at = tag_row; read = (first, second); guard = guard; good = ap (λ y. ltb y 64) tag; same = λ _ x. ap (eqb x) tag; left = refl }

  pub pattern_written : (g : ℕ) (s : List ℕ) → Numeral u → g ≡ digits_value 10 u → SamePattern s v → Writes patterns ss n g (pattern_formed s) (matches s) rest
  unfolding pattern_row
  pattern_written g s first guard p = record { at = pattern_row; read = (first, tt); guard = guard; good = p.form; same = λ e x. ap (λ l. matches l x) (p.same e); left = refl }

module _ {ss rest : List Sign} {u v w : List ℕ} {n i j k : ℕ} (is : ss ≡ word u n ∷ word v i ∷ word w j ∷ line_end k ∷ rest) where
  pub range_row : Row ranges ss n
  range_row = record { guard = u; first = v; second = w; i = i; j = j; k = k; rest = rest; is = is }

  pub range_misspelt : (Numeral u × (HexNumeral v × HexNumeral w) → ⊥) → (r : Row ranges ss n) × (Read r → ⊥)
  unfolding range_row
  range_misspelt none = (range_row, none)

  pub range_written : (g l h : ℕ) → Numeral u → g ≡ digits_value 10 u → HexNumeral v → l ≡ digits_value 16 v → HexNumeral w → h ≡ digits_value 16 w → Writes ranges ss n g (range_formed (record { low = l; high = h })) (in_range (record { low = l; high = h })) rest
  unfolding range_row
  range_written g l h first guard second low third high = record {
    at = range_row;
    read = (first, (second, third));
    guard = guard;
    good = ap (λ y. leb y h && leb h 0x10FFFF) low ∙ ap (λ y. leb (digits_value 16 v) y && leb y 0x10FFFF) high;
    same = λ _ x. ap (λ y. leb y x && leb x h) low ∙ ap (λ y. leb (digits_value 16 v) x && leb x y) high;
    left = refl;
  }

-- ---- a word that is no text is no pattern

signs_ascii : (cs : List ℕ) → signs cs ≡ true → AllByRecursion (λ c. c < 128) cs
signs_ascii [] h = tt
signs_ascii (c ∷ cs) h =
    let parts = and_parts (sign c) (signs cs) h in
    let at : (n : ℕ) → n < 128 → eqb c n ≡ true → c < 128 = λ n l e. let same = eqb-true c n e in omega arith in
    (⊎_elim (at 48 (omega arith)) (λ t. ⊎_elim (at 49 (omega arith)) (at 45 (omega arith)) (or_cases (eqb c 49) (eqb c 45) t)) (or_cases (eqb c 48) (eqb c 49 || eqb c 45) parts.0), signs_ascii cs parts.1)

no_text_no_pattern : (s w : List ℕ) → s ≡ [] → (IsUtf8 w → ⊥) → SamePattern s w
no_text_no_pattern s w none bad =
    let empty : pattern_formed s ≡ false = ap pattern_formed none in
    record {
      form = empty ∙ sym (⊎_elim (λ e. absurd (bad (IsUtf8-from_ascii w (IsAscii-from_all w (signs_ascii w (and_parts (eqb (length w) 16) (signs w) e).1))))) (λ e. e) (cases_Bool (pattern_formed w)));
      same = λ e. let z : ◌≡◌ {A = Bool} true false = sym e ∙ empty in absurd (both z);
    }
  where
    both : true ≡ false → ⊥
    both z = let n : ◌≡◌ {A = ℕ} 0 1 = cc in omega arith

same_pattern : (s w : List ℕ) → s ≡ w → SamePattern s w
same_pattern s w e = record { form = ap pattern_formed e; same = λ _. e }

-- the word as text, or the empty text where it is none
pub text_pattern : {E : Type 0} (V : E → Type 0) (w : List ℕ) (r : Result (Bor (List ℕ)) E) (u : Bor (List ℕ)) → MatchResult r (λ s. (s.now ≡ w) × IsUtf8 w) (λ e. (IsUtf8 w → ⊥) × V e) → ResultUnwrapsOrElse r (λ d. d.now ≡ []) u → SamePattern u.now w
text_pattern V w (Ok s) u told is = same_pattern u.now w (ap (λ s. s.now) is ∙ told.0)
text_pattern V w (Err e) u told none = no_text_no_pattern u.now w none told.0

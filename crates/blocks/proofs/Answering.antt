-- From the lines of a guard block to what is printed.
use Rattle.std.proofs.Common.{◌≡◌, ℕ, List, [], Some, None, Ok, Err, Option, Result, sym, refl, ap, ◌∙◌, subst, String}
use Rattle.labels.specs.Meaning.{Meaning, Fresh}
use Rattle.atoms.specs.Atoms.{MoreThan}
use Rattle.atoms.specs.Tables.{TableOf}
use Rattle.atoms.specs.declared.table.AtomTable.{AtomTable}
use Rattle.text.specs.Tokens.{Sign}
use Rattle.blocks.specs.Answers.{Named, Says, Says.named, Says.unnamed, Declines, Tabulates, Gives}
use Rattle.blocks.specs.Printing.{table_text}
use Rattle.blocks.specs.Reading.{Outcome, Outcome.book, Outcome.refused, Reads, Reads.all, Reads.bad}
use Rattle.blocks.specs.Rows.{Format, Format.ranges, Format.tags, Format.patterns, Stops, label_of}
use Rattle.blocks.specs.declared.refusal.Refusal.TheVariants.{Line, TooManyAtoms}
use Rattle.blocks.specs.declared.refusal.Stop.{Stop}
use Rattle.blocks.specs.declared.refusal.Stop.TheVariants.{Refused, Memory}

module _ (f : Format) (m : Meaning) (ss : List Sign) (bad-line : Option ℕ) where
  -- a line was refused
  pub rows_declined : (s : Stop) → Stops (λ x. (b : Option ℕ) → Reads f m 0 ss b (refused x)) s → Stops (λ x. (o : Outcome) × Reads f m 0 ss bad-line o × Declines o x) s
  rows_declined (Refused x) h = (refused x, h bad-line, refl)
  rows_declined (Memory error) h = tt

  module _ (k : Meaning) (c : ℕ) (goes_on : (b : Option ℕ) (o : Outcome) → Reads f k c [] b o → Reads f m 0 ss b o) where
    pub bad_declined : (n : ℕ) → bad-line ≡ Some n → (o : Outcome) × Reads f m 0 ss bad-line o × Declines o (Line n)
    bad_declined n is = (refused (Line n), subst (λ b. Reads f m 0 ss b (refused (Line n))) (sym is) (goes_on (Some n) (refused (Line n)) bad), refl)

    whole : bad-line ≡ None → Reads f m 0 ss bad-line (book k)
    whole is = subst (λ b. Reads f m 0 ss b (book k)) (sym is) (goes_on None (book k) all)

    pub many_declined : bad-line ≡ None → MoreThan 16 k → (o : Outcome) × Reads f m 0 ss bad-line o × Declines o TooManyAtoms
    many_declined is many = (book k, whole is, (many, refl))

    pub tabulated : bad-line ≡ None → (t : AtomTable) (out : List ℕ) → TableOf k t → out ≡ table_text t.atoms t.guards t.count → (o : Outcome) × Reads f m 0 ss bad-line o × Tabulates o out
    tabulated is t out of printed = (book k, whole is, (t.atoms, t.count, of.lists, t.within, printed ∙ ap (λ n. table_text t.atoms n t.count) of.guards))

-- ---- the whole block

module _ {Z : Type 0} (b : Option ℕ) {f : Format} {m : Meaning} {ss rest : List Sign} (n : Named f ss rest) (fresh : Fresh m (label_of f)) where
  pub block_said : (r : Result (String Z) Stop) → Gives r (Reads f m 0 rest b) → Gives r (Says ss b)
  block_said (Ok s) h = (h.0, named n fresh h.1, h.2)
  block_said (Err (Refused x)) h = (h.0, named n fresh h.1, h.2)
  block_said (Err (Memory error)) h = tt

no_names : (ss : List Sign) → ((rest : List Sign) → Named ranges ss rest → ⊥) → ((rest : List Sign) → Named tags ss rest → ⊥) → ((rest : List Sign) → Named patterns ss rest → ⊥) → (f : Format) (rest : List Sign) → Named f ss rest → ⊥
no_names ss p q r ranges = p
no_names ss p q r tags = q
no_names ss p q r patterns = r

pub block_unnamed : (ss : List Sign) (b : Option ℕ) → ((rest : List Sign) → Named ranges ss rest → ⊥) → ((rest : List Sign) → Named tags ss rest → ⊥) → ((rest : List Sign) → Named patterns ss rest → ⊥) → (o : Outcome) × Says ss b o × Declines o (Line 1)
block_unnamed ss b p q r = (refused (Line 1), unnamed (no_names ss p q r), refl)

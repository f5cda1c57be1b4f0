-- What a guard block says: a meaning, or a refusal.
use Rattle.std.specs.Prelude.{ℕ, ◌+◌, List, [], Some, None, Option}
use Rattle.labels.specs.Meaning.{Meaning}
use Rattle.text.specs.Tokens.{Sign}
use Rattle.blocks.specs.Rows.{Format, Takes, Refuses}
use Rattle.blocks.specs.declared.refusal.Refusal.{Refusal}
use Rattle.blocks.specs.declared.refusal.Refusal.TheVariants.{Line}

pub data Outcome : Type 0 where
  book : Meaning → Outcome
  refused : Refusal → Outcome

-- The value lines, from the meaning m after c values on, up to the first bad line, if there is one:
-- all are taken in their order, or the first that is not is refused.
pub data Reads (f : Format) : Meaning → ℕ → List Sign → Option ℕ → Outcome → Type 0 where
  all : {m : Meaning} {c : ℕ} → Reads f m c [] None (book m)
  bad : {m : Meaning} {c n : ℕ} → Reads f m c [] (Some n) (refused (Line n))
  takes : {m k : Meaning} {c : ℕ} {ss rest : List Sign} {b : Option ℕ} {o : Outcome} → Takes f m c ss k rest → Reads f k (c + 1) rest b o → Reads f m c ss b o
  refuses : {m : Meaning} {c : ℕ} {ss : List Sign} {b : Option ℕ} {x : Refusal} → Refuses f c ss x → Reads f m c ss b (refused x)

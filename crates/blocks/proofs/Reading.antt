-- What one line more makes of a reading.
use Rattle.std.proofs.Common.{ℕ, ◌+◌, List, Option}
use Rattle.labels.specs.Adding.{Book}
use Rattle.labels.specs.Meaning.{Meaning}
use Rattle.text.specs.Tokens.{Sign}
use Rattle.blocks.specs.Reading.{Outcome, Outcome.refused, Reads, Reads.takes, Reads.refuses}
use Rattle.blocks.specs.Rows.{Format, Held, Takes, Refuses, Stops}
use Rattle.blocks.specs.declared.refusal.Stop.{Stop}
use Rattle.blocks.specs.declared.refusal.Stop.TheVariants.{Refused, Memory}

-- whatever the rest gives, the whole gives
pub record Sofar {V : Type 0} (f : Format) (m : Meaning) (whole : List Sign) (b : Book V) (rest : List Sign) : Type 0 where
  pub count : ℕ
  pub held : Held f b count
  pub goes_on : (e : Option ℕ) (o : Outcome) → Reads f b.meaning count rest e o → Reads f m 0 whole e o

pub none_read : {V : Type 0} (f : Format) (whole : List Sign) (b : Book V) → Held f b 0 → Sofar f b.meaning whole b whole
none_read f whole b held = record { count = 0; held = held; goes_on = λ e o r. r }

module _ {V : Type 0} (f : Format) (m : Meaning) (whole : List Sign) where
  pub one_read : (b k : Book V) (ss rest : List Sign) (s : Sofar f m whole b ss) → Takes f b.meaning s.count ss k.meaning rest × Held f k (s.count + 1) → Sofar f m whole k rest
  one_read b k ss rest s t = record { count = s.count + 1; held = t.1; goes_on = λ e o r. s.goes_on e o (takes t.0 r) }

  pub one_refused : (b : Book V) (ss : List Sign) (s : Sofar f m whole b ss) (x : Stop) → Stops (Refuses f s.count ss) x → Stops (λ y. (e : Option ℕ) → Reads f m 0 whole e (refused y)) x
  one_refused b ss s (Refused y) h = λ e. s.goes_on e (refused y) (refuses h)
  one_refused b ss s (Memory error) h = tt

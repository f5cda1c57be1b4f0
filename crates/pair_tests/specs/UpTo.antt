-- Labels up to a last one.
use Rattle.std.specs.Prelude.{ℕ, false, nat_le}
use Rattle.labels.specs.Meaning.{Meaning}

-- the labels 0 to last, and no guard
abbrev pub up_to : ℕ → Meaning
up_to last = record { label = λ x. nat_le x last; guards = 0; holds = λ g x. false }

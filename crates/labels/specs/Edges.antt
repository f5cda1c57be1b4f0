-- The search for the least code point that fits, among those where a range begins or has ended.
use Rattle.std.specs.Prelude.{ℕ, ◌≤◌, Some, None, Option}
use Rattle.labels.specs.Meaning.{Meaning, Fits}

-- what was found is not above y
abbrev pub AtMost : Option ℕ → ℕ → Type 0
AtMost None y = ⊥
AtMost (Some x) y = x ≤ y

abbrev pub Fitting : Meaning → ℕ → ℕ → Option ℕ → Type 0
Fitting m ins outs None = Unit {0}
Fitting m ins outs (Some x) = Fits m ins outs x

-- the label x has been tried after best was found
pub record Tried (m : Meaning) (ins outs x : ℕ) (best r : Option ℕ) : Type 0 where
  pub fits : Fitting m ins outs best → Fitting m ins outs r
  pub less : (y : ℕ) → AtMost best y → AtMost r y
  pub tried : Fits m ins outs x → AtMost r x

-- What a label kind means, and what its questions answer.
use Rattle.std.specs.Prelude.{◌≡◌, ℕ, ◌^◌, ◌<◌, ◌≤◌, Bool, true, false, Some, None, Option}
use Rattle.labels.specs.Sets.{has}

pub record Meaning : Type 0 where
  -- which numbers are labels
  pub label : ℕ → Bool
  -- how many guards there are; they are numbered from 0
  pub guards : ℕ
  -- whether a guard holds of a number: guard, number
  pub holds : ℕ → ℕ → Bool

-- there is a label; labels lie below 2 ^ 64; there are at most 32 guards; only those hold, and only of labels
pub record Lawful (m : Meaning) : Type 0 where
  pub below : (x : ℕ) → m.label x ≡ true → x < 2 ^ 64
  pub some : (x : ℕ) × (m.label x ≡ true)
  pub few : m.guards ≤ 32
  pub inside : (g x : ℕ) → m.holds g x ≡ true → (g < m.guards) × (m.label x ≡ true)

-- x is a label that every guard of the set ins holds of, and no guard of the set outs
pub record Fits (m : Meaning) (ins outs : ℕ) (x : ℕ) : Type 0 where
  pub label : m.label x ≡ true
  pub every : (g : ℕ) → has ins g ≡ true → m.holds g x ≡ true
  pub none : (g : ℕ) → has outs g ≡ true → m.holds g x ≡ false

-- the least label that fits, or none exactly if none does
abbrev pub IsLeast : Meaning → ℕ → ℕ → Option ℕ → Type 0
IsLeast m ins outs None = (x : ℕ) → Fits m ins outs x → ⊥
IsLeast m ins outs (Some x) = Fits m ins outs x × ((y : ℕ) → Fits m ins outs y → x ≤ y)

pub record IsLargest (m : Meaning) (x : ℕ) : Type 0 where
  pub label : m.label x ≡ true
  pub above : (y : ℕ) → m.label y ≡ true → y ≤ x

-- these are the labels, and there is no guard
pub record Fresh (m : Meaning) (labels : ℕ → Bool) : Type 0 where
  pub label : (x : ℕ) → m.label x ≡ labels x
  pub guards : m.guards ≡ 0
  pub holds : (g x : ℕ) → m.holds g x ≡ false

-- What adding a value to a guard does, and when it is refused.
use Rattle.std.specs.Prelude.{◌≡◌, ℕ, ◌+◌, ◌<◌, ◌≤◌, max, Bool, true, false, ◌&&◌, ◌||◌, List, [], ◌∷◌, Ok, Err, Result, ◌==◌, codes}
use Rattle.labels.specs.Meaning.{Meaning}
use Rattle.labels.specs.declared.kind.AddFault.{AddFault}
use Rattle.labels.specs.declared.kind.AddFault.TheVariants.{Guard, Value, Full}

-- The guard book of a kind, over the values V that its guards take: all that a caller can learn of the kind.
pub record Book (V : Type 0) : Type 0 where
  pub meaning : Meaning
  -- whether a value is of the kind's form, and which labels it has
  pub formed : V → Bool
  pub labels : V → ℕ → Bool
  -- whether a guard takes no further value, once these guards have been given one value more each
  pub full : List ℕ → ℕ → Bool

-- nothing that a caller can learn has changed
pub record Same {V : Type 0} (b c : Book V) : Type 0 where
  pub meaning : c.meaning ≡ b.meaning
  pub formed : c.formed ≡ b.formed
  pub labels : c.labels ≡ b.labels
  pub full : c.full ≡ b.full

-- n is m with the labels of vs joined to guard g
pub record Joins (m : Meaning) (g : ℕ) (vs : ℕ → Bool) (n : Meaning) : Type 0 where
  pub label : (x : ℕ) → n.label x ≡ m.label x
  pub guards : n.guards ≡ max m.guards (g + 1)
  pub holds : (h x : ℕ) → n.holds h x ≡ (m.holds h x || (h == g && (m.label x && vs x)))

pub record Added {V : Type 0} (b : Book V) (g : ℕ) (v : V) (c : Book V) : Type 0 where
  pub meaning : Joins b.meaning g (b.labels v) c.meaning
  pub full : (gs : List ℕ) (h : ℕ) → c.full gs h ≡ b.full (g ∷ gs) h
  pub formed : c.formed ≡ b.formed
  pub labels : c.labels ≡ b.labels

-- the book b before, and c after: the checks in their order.
abbrev pub Adds : {V : Type 0} → Book V → ℕ → V → Result (Unit {0}) AddFault → Book V → Type 0
Adds b g v (Ok done) c = (g ≤ 31) × (b.formed v ≡ true) × (b.full [] g ≡ false) × Added b g v c
Adds b g v (Err Guard) c = (31 < g) × Same b c
Adds b g v (Err Value) c = (g ≤ 31) × (b.formed v ≡ false) × Same b c
Adds b g v (Err Full) c = (g ≤ 31) × (b.formed v ≡ true) × (b.full [] g ≡ true) × Same b c

-- the number of each refusal
abbrev pub number_of : AddFault → ℕ
number_of Guard = 10
number_of Value = 11
number_of Full = 12

-- the text of each refusal
abbrev pub fault_text : AddFault → List ℕ
fault_text Guard = codes "the guard's number is above 31"
fault_text Value = codes "the value is not of the kind's form"
fault_text Full = codes "there is no place for one more value"

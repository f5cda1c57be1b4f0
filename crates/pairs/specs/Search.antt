-- The search for the least label of a pair.
use Rattle.std.specs.Prelude.{◌≡◌, ℕ, ◌^◌, ◌<◌, ◌≤◌, Bool, true, ◌⊎◌, List, is_some, Some, None, Option, ◌≢◌}
use Rattle.std.specs.Fn.{AnyResult, Shared}
use Rattle.labels.specs.Edges.{AtMost}
use Rattle.labels.specs.Meaning.{Meaning, Fits}
use Rattle.labels.specs.Sets.{has}
use Rattle.pairs.specs.Pairs.{first_of, value_at}
use Rattle.pairs.specs.declared.pair.search.Path.{Path}
use Rattle.pairs.specs.declared.value.PairValue.{PairValue}

-- both parts are numbers that a set of guards can have
abbrev pub Small : List (Option PairValue) → Type 0
Small vs = (g : ℕ) (v : PairValue) → value_at vs g ≡ Some v → (v.first < 32) × (v.second < 32)

-- every guard of gs has a value
abbrev pub Given : List (Option PairValue) → ℕ → Type 0
Given vs gs = (g : ℕ) → has gs g ≡ true → is_some (value_at vs g) ≡ true

-- what a call of f returns at a value is what h says
abbrev pub Gives : {F R : Type 0} → Shared F (PairValue × Unit {0}) R → F → (PairValue → R) → Type 0
Gives g f h = (v : PairValue) → AnyResult g f (v, tt) (λ r. r ≡ h v)

-- a guard of gs whose value is kept, and has this part
pub record Source (vs : List (Option PairValue)) (gs : ℕ) (keep : PairValue → Bool) (part : PairValue → ℕ) (k : ℕ) : Type 0 where
  pub guard : ℕ
  pub value : PairValue
  pub chosen : has gs guard ≡ true
  pub given : value_at vs guard ≡ Some value
  pub kept : keep value ≡ true
  pub is : part value ≡ k

-- the set s has the parts of the kept values of the guards of gs, and no other number
pub record Gathers (vs : List (Option PairValue)) (gs : ℕ) (keep : PairValue → Bool) (part : PairValue → ℕ) (s : ℕ) : Type 0 where
  pub every : (g : ℕ) (v : PairValue) → has gs g ≡ true → value_at vs g ≡ Some v → keep v ≡ true → has s (part v) ≡ true
  pub only : (k : ℕ) → has s k ≡ true → Source vs gs keep part k

abbrev pub Firsts : List (Option PairValue) → ℕ → ℕ → Type 0
Firsts vs gs s = Gathers vs gs (λ v. true) (λ v. v.first) s

-- the seconds of the values whose first is in the set ins
abbrev pub Seconds : List (Option PairValue) → ℕ → ℕ → ℕ → Type 0
Seconds vs gs ins s = Gathers vs gs (λ v. has ins v.first) (λ v. v.second) s

-- the least number of the set s that is not below n
abbrev pub Next : ℕ → ℕ → Option ℕ → Type 0
Next s n None = (k : ℕ) → n ≤ k → has s k ≢ true
Next s n (Some g) = (n ≤ g) × (g < 32) × (has s g ≡ true) × ((k : ℕ) → n ≤ k → k < g → has s k ≢ true)

-- the path is a branch of the search: it takes in every first of the yes guards, which all have a value, and takes in or out each first below `next` of the no guards
pub record Branch (vs : List (Option PairValue)) (p : Path) : Type 0 where
  pub takes : (g : ℕ) → has p.yes.0 g ≡ true → (v : PairValue) × (value_at vs g ≡ Some v) × (has p.ins.0 v.first ≡ true)
  pub asks : Firsts vs p.no.0 p.asked.0
  pub settles : (k : ℕ) → has p.asked.0 k ≡ true → k < p.next → (has p.ins.0 k ≡ true) ⊎ (has p.outs.0 k ≡ true)

-- r is the least of best and of the numbers that P holds of
pub record LeastOf (P : ℕ → Type 0) (best r : Option ℕ) : Type 0 where
  pub from : (r ≡ best) ⊎ ((x : ℕ) × (r ≡ Some x) × P x)
  pub less : (y : ℕ) → AtMost best y → AtMost r y
  pub all : (y : ℕ) → P y → AtMost r y

-- r is the least of best and of the labels that fit the meaning m and have a first part of the branch, in the meaning a
abbrev pub Searched : Meaning → Meaning → Path → Option ℕ → Option ℕ → Type 0
Searched m a p best r = LeastOf (λ y. Fits a p.ins.0 p.outs.0 (first_of y) × Fits m p.yes.0 p.no.0 y) best r

abbrev pub Narrow : Meaning → Type 0
Narrow m = (x : ℕ) → m.label x ≡ true → x < 2 ^ 32

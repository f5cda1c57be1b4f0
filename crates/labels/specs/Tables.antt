-- The meaning of a kind that keeps, for each of its labels 0, 1, 2 .., the set of the guards that hold of it.
use Rattle.std.specs.Prelude.{◌≡◌, ℕ, ◌<◌, Bool, ◌&&◌, ◌||◌, List, length, ◌==◌, nat_lt, slice_index_or}
use Rattle.labels.specs.Meaning.{Meaning}
use Rattle.labels.specs.Sets.{has}
use Rattle.labels.specs.declared.set.GuardSet.{GuardSet}

abbrev pub empty : GuardSet
empty = record { 0 = 0 }

-- the set at label x, none past the end
abbrev pub set_at : List GuardSet → ℕ → ℕ
set_at sets x = (slice_index_or sets x empty).0

abbrev pub table_meaning : List GuardSet → ℕ → Meaning
table_meaning sets n = record { label = λ x. nat_lt x (length sets); guards = n; holds = λ g x. nat_lt x (length sets) && has (set_at sets x) g }

-- guard g joined to the sets at the labels of vs
pub record Marked (sets : List GuardSet) (g : ℕ) (vs : ℕ → Bool) (marked : List GuardSet) : Type 0 where
  pub long : length marked ≡ length sets
  pub at : (x h : ℕ) → x < length sets → has (set_at marked x) h ≡ (has (set_at sets x) h || (h == g && vs x))

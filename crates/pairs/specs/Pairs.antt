-- The pair of two kinds.
use Rattle.std.specs.Prelude.{ℕ, ◌/◌, ◌%◌, ◌^◌, Bool, false, ◌&&◌, ◌||◌, List, is_some, Some, None, Option, ◌==◌, nat_lt, slice_index_or}
use Rattle.std.specs.List.{list_any}
use Rattle.labels.specs.Adding.{Book}
use Rattle.labels.specs.Meaning.{Meaning}
use Rattle.pairs.specs.declared.value.PairValue.{PairValue}

-- a label is first × 2 ^ 32 + second
abbrev pub first_of : ℕ → ℕ
first_of x = x / 2 ^ 32

abbrev pub second_of : ℕ → ℕ
second_of x = x % 2 ^ 32

abbrev pub pair_label : Meaning → Meaning → ℕ → Bool
pair_label a b x = a.label (first_of x) && b.label (second_of x)

-- both guards hold of their parts
abbrev pub both_hold : Meaning → Meaning → PairValue → ℕ → Bool
both_hold a b v x = a.holds v.first (first_of x) && b.holds v.second (second_of x)

-- a guard without a value holds of no label
abbrev pub given_holds : Meaning → Meaning → Option PairValue → ℕ → Bool
given_holds a b None x = false
given_holds a b (Some v) x = both_hold a b v x

-- the value of guard g
abbrev pub value_at : List (Option PairValue) → ℕ → Option PairValue
value_at vs g = slice_index_or vs g None

abbrev pub pair_meaning : Meaning → Meaning → List (Option PairValue) → ℕ → Meaning
pair_meaning a b vs n = record { label = pair_label a b; guards = n; holds = λ g x. pair_label a b x && given_holds a b (value_at vs g) x }

-- a guard of each part
abbrev pub pair_formed : Meaning → Meaning → PairValue → Bool
pair_formed a b v = nat_lt v.first a.guards && nat_lt v.second b.guards

-- the book of a pair, whose guards take one value each
abbrev pub pair_book : Meaning → Meaning → List (Option PairValue) → ℕ → Book PairValue
pair_book a b vs n = record { meaning = pair_meaning a b vs n; formed = pair_formed a b; labels = both_hold a b; full = λ gs g. is_some (value_at vs g) || list_any (λ h. g == h) gs }

-- Code points and the ranges that guards are given by.
use Rattle.std.specs.Prelude.{ℕ, Bool, false, cond, not, ◌&&◌, ◌||◌, List, [], ◌∷◌, ◌==◌, nat_le, slice_index_or}
use Rattle.labels.specs.Meaning.{Meaning}
use Rattle.labels.specs.declared.range.Given.{Given}
use Rattle.labels.specs.declared.range.Range.{Range}

-- a surrogate is no label
abbrev pub surrogate : ℕ → Bool
surrogate x = nat_le 0xD800 x && nat_le x 0xDFFF

abbrev pub code_label : ℕ → Bool
code_label x = nat_le x 0x10FFFF && not (surrogate x)

abbrev pub range_formed : Range → Bool
range_formed r = nat_le r.low r.high && nat_le r.high 0x10FFFF

-- both ends included
abbrev pub in_range : Range → ℕ → Bool
in_range r x = nat_le r.low x && nat_le x r.high

-- one of the ranges given to guard g has x
abbrev pub covered : List Given → ℕ → ℕ → Bool
covered [] g x = false
covered (r ∷ rs) g x = (g == r.guard && in_range r.range x) || covered rs g x

abbrev pub code_meaning : List Given → ℕ → Meaning
code_meaning rs n = record { label = code_label; guards = n; holds = λ g x. code_label x && covered rs g x }

abbrev pub nothing : Given
nothing = record { guard = 0; range = record { low = 0; high = 0 } }

abbrev pub given_at : List Given → ℕ → Given
given_at rs k = slice_index_or rs k nothing

-- the first number from x on that is no surrogate
abbrev pub past_surrogates : ℕ → ℕ
past_surrogates x = cond (surrogate x) 0xE000 x

-- Worked examples: what they claim, what each claim means, and the list of them all.
use Rattle.std.specs.Prelude.{◌≡◌, ℕ, ◌^◌, cond, List, [], ◌∷◌, map, length, Some, Option, ◌==◌, nat_lt}
use Rattle.std.specs.List.{range_with_len}
use Rattle.labels.specs.Meaning.{Meaning, IsLeast}
use Rattle.labels.specs.Ranges.{code_meaning}
use Rattle.labels.specs.Tables.{table_meaning}
use Rattle.labels.specs.declared.range.Given.{Given}
use Rattle.atoms.specs.Atoms.{Lists, MoreThan}
use Rattle.atoms.specs.declared.atom.Atom.{Atom}
use Rattle.pairs.specs.Pairs.{pair_meaning}

-- ---- claims

pub data Example : Type 0 where
  -- the atoms are those with these labels, in this order, and no others
  atoms_with : Meaning → List ℕ → Example
  -- there are more than n atoms
  atoms_above : Meaning → ℕ → Example
  -- the least label that every guard of the first set holds of, and no guard of the second; bit g of a set is guard g
  least_label : Meaning → ℕ → ℕ → Option ℕ → Example

abbrev pub Holds : Example → Type 0
Holds (atoms_with m labels) = (xs : List Atom) × Lists m xs (length labels) × (map (λ (a : Atom). a.label) xs ≡ labels)
Holds (atoms_above m n) = MoreThan n m
Holds (least_label m ins outs x) = IsLeast m ins outs x

-- ---- guard books

-- the code points low to high, given to guard g
abbrev pub range : ℕ → ℕ → ℕ → Given
range g low high = record { guard = g; range = record { low = low; high = high } }

abbrev pub surrogates : List Given
surrogates = range 0 0xD800 0xDFFF ∷ []

abbrev pub overlapping : List Given
overlapping = range 0 0x41 0x5A ∷ range 1 0x50 0x60 ∷ []

-- n guards of the 64 tags, by the set of those that hold of each tag
abbrev pub tag_meaning : (ℕ → ℕ) → ℕ → Meaning
tag_meaning set_of n = table_meaning (map (λ x. record { 0 = set_of x }) (range_with_len 0 64)) n

-- guard g = tag g, for each g below n
abbrev pub own_guard : ℕ → ℕ → ℕ
own_guard n x = cond (nat_lt x n) (2 ^ x) 0

-- guard 0 = tag t
abbrev pub one_tag : ℕ → ℕ → ℕ
one_tag t x = cond (x == t) (2 ^ 0) 0

-- the code point 41 hex and the tag 3: guard 0 of the pair holds where guard 0 of each part does
abbrev pub code_and_tag : Meaning
code_and_tag = pair_meaning (code_meaning (range 0 0x41 0x41 ∷ []) 1) (tag_meaning (one_tag 3) 1) (Some (record { first = 0; second = 0 }) ∷ []) 1

-- ---- the examples

abbrev pub examples : List Example
examples =
    -- surrogates are no labels: a guard that is given by them holds of none
    atoms_with (code_meaning surrogates 1) (0 ∷ []) ∷
    -- neither guard, the first, both, the second
    atoms_with (code_meaning overlapping 2) (0 ∷ 65 ∷ 80 ∷ 91 ∷ []) ∷
    -- 65 × 2 ^ 32 + 3
    least_label code_and_tag (2 ^ 0) 0 (Some 279172874243) ∷
    -- 15 tags with a guard each, and the others: 16 atoms, as many as a table has room for
    atoms_with (tag_meaning (own_guard 15) 15) (range_with_len 0 16) ∷
    -- one guard more, and there are too many
    atoms_above (tag_meaning (own_guard 16) 16) 16 ∷ []

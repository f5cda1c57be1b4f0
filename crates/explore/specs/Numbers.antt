-- Entries numbered as they are found, each once.
use Rattle.std.specs.Prelude.{◌≡◌, ℕ, ◌+◌, ◌<◌, ◌⊎◌, List, length, Some, None, Option, slice_index_or, slice_set}

-- e stands at place k, whatever is read past the end
abbrev pub At : {E : Type 0} → List E → ℕ → E → Type 0
At {E} es k e = (d : E) → slice_index_or es k d ≡ e

-- the same entry stands at both places
abbrev pub Alike : {E : Type 0} → List E → ℕ → ℕ → Type 0
Alike {E} es i j = (d : E) → slice_index_or es i d ≡ slice_index_or es j d

-- e is the entry with number k, of the first n; or it is none of them
abbrev pub Finds : {E : Type 0} → List E → ℕ → E → Option ℕ → Type 0
Finds es n e None = (k : ℕ) → k < n → At es k e → ⊥
Finds es n e (Some k) = (k < n) × At es k e

-- The entry e gets its number: the one it has, or the next one; none where it has none and the n entries fill their places.
-- Entries ds, n of them, before; es, m of them, after.
abbrev pub Numbers : {E : Type 0} → List E → ℕ → E → Option ℕ → List E → ℕ → Type 0
Numbers ds n e None es m = Finds ds n e None × (n ≡ length ds) × (es ≡ ds) × (m ≡ n)
Numbers ds n e (Some k) es m = (Finds ds n e (Some k) × (es ≡ ds) × (m ≡ n)) ⊎ (Finds ds n e None × (n < length ds) × (k ≡ n) × (es ≡ slice_set ds n e) × (m ≡ n + 1))

-- what was found holds, whatever was not
abbrev pub Guesses : {E : Type 0} → List E → ℕ → E → Option ℕ → Type 0
Guesses es n e None = Unit {0}
Guesses es n e (Some k) = (k < n) × At es k e

-- What is printed.
use Rattle.std.specs.Prelude.{ℕ, zero, suc, cond, List, [], ◌∷◌, ◌++◌, codes, decimal}
use Rattle.labels.specs.Sets.{has}
use Rattle.atoms.specs.Entries.{label_at, set_at}
use Rattle.atoms.specs.declared.atom.Atom.{Atom}
use Rattle.blocks.specs.Refusals.{number_of, place_of}
use Rattle.blocks.specs.declared.refusal.Refusal.{Refusal}

-- the guards below n that are in the set s, rising
abbrev pub members : ℕ → ℕ → List ℕ
members zero s = []
members (suc n) s = members n s ++ cond (has s n) (n ∷ []) []

-- numbers with commas between them
abbrev pub commas : List ℕ → List ℕ
commas [] = []
commas (g ∷ []) = decimal g
commas (g ∷ h ∷ gs) = decimal g ++ 44 ∷ commas (h ∷ gs)

-- a list of numbers; the empty one is a dash
abbrev pub list_text : List ℕ → List ℕ
list_text [] = 45 ∷ []
list_text (g ∷ gs) = commas (g ∷ gs)

-- the k-th atom of a book with n guards
abbrev pub atom_line : List Atom → ℕ → ℕ → List ℕ
atom_line xs n k = decimal k ++ (32 ∷ (decimal (label_at xs k) ++ (32 ∷ (list_text (members n (set_at xs k)) ++ (10 ∷ [])))))

-- the first c atoms
abbrev pub atom_lines : List Atom → ℕ → ℕ → List ℕ
atom_lines xs n zero = []
atom_lines xs n (suc c) = atom_lines xs n c ++ atom_line xs n c

abbrev pub table_text : List Atom → ℕ → ℕ → List ℕ
table_text xs n c = codes "atom label yes\n" ++ atom_lines xs n c

abbrev pub refusal_text : Refusal → List ℕ
refusal_text x = codes "refused place\n" ++ (decimal (number_of x) ++ (32 ∷ (decimal (place_of x) ++ (10 ∷ []))))

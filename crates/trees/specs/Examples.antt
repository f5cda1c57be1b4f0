-- Small examples: something meets each definition, and not everything does.
use Rattle.std.specs.Prelude.{◌≡◌, ℕ, ◌-◌, ◌*◌, ◌/◌, min, max, Bool, true, cond, ◌&&◌, ◌||◌, List, [], ◌∷◌, ◌==◌, nat_eq, nat_lt, slice_index_or}
use Rattle.trees.specs.Trees.{Tree, leaf, one, two, height, Alphabet, Over, Context, place, left_of, plug, Language, Congruent}
use Rattle.trees.specs.Automata.{Automaton, run, For, Reachable}
use Rattle.trees.specs.Rounds.{Combination, nullary, binary, Numbered}
use Rattle.trees.specs.Normal.{NormalForm, Same, Apart}
use Rattle.trees.specs.Rules.{Rule, CanHave, Accepts}
use Rattle.trees.specs.Lines.{Stands, Ordered, LeadsBack, Renumbered}
use Rattle.trees.specs.Products.{Pairs, FirstSplit}
use Rattle.trees.specs.Classes.{Separate, Refines, Stable, Quotient}
use Rattle.trees.specs.Letters.{Atoms, relabel, by_atoms}

-- ---- trees over the labels 0 and 1

abbrev pub bits : Alphabet
bits k a = nat_lt a 2

abbrev pub sample : Tree
sample = two 0 (leaf 1) (one 0 (leaf 0))

-- sample with its left child taken out
abbrev pub gap : Context
gap = left_of 0 place (one 0 (leaf 0))

-- the trees without the label 1
abbrev pub zeros : Language
zeros (leaf a) = a == 0
zeros (one a t) = a == 0 && zeros t
zeros (two a t u) = a == 0 && (zeros t && zeros u)

-- ---- automata

-- 0 without the label 1, and 1 with it
abbrev pub solo : Automaton
solo = record { size = 2; none = λ a. a; single = λ p a. max p a; double = λ p q a. max (max p q) a; accepts = λ s. (s == 0) }

-- solo with an unused entry changed: no node carries the label 2
abbrev pub changed : Automaton
changed = record { size = 2; none = λ a. min a 1; single = λ p a. max p a; double = λ p q a. max (max p q) a; accepts = λ s. (s == 0) }

-- solo with its states numbered the other way round
abbrev pub flipped : Automaton
flipped = record { size = 2; none = λ a. 1 - a; single = λ p a. min p (1 - a); double = λ p q a. min (min p q) (1 - a); accepts = λ s. nat_lt 0 s }

-- one state more: with the label 1, leaves have the state 1 and other trees the state 2
abbrev pub spare : Automaton
spare =
    record {
      size = 3;
      none = λ a. a;
      single = λ p a. cond (max p a == 0) 0 2;
      double = λ p q a. cond (max (max p q) a == 0) 0 2;
      accepts = λ s. (s == 0);
    }

-- all trees
abbrev pub anything : Automaton
anything = record { size = 1; none = λ a. 0; single = λ p a. 0; double = λ p q a. 0; accepts = λ s. true }

-- the states 1 and 2 of spare in one class
abbrev pub joined : ℕ → ℕ
joined s = min s 1

-- ---- rules: a leaf can have the state 1, with the label 0 also 0; a node over these two, in this order, can have 2

abbrev pub rules : List Rule
rules =
    record { children = 0; left = 0; right = 0; admits = λ a. (a == 0); state = 0 } ∷
    record { children = 0; left = 0; right = 0; admits = λ a. true; state = 1 } ∷
    record { children = 2; left = 0; right = 1; admits = λ a. true; state = 2 } ∷ []

abbrev pub ruled : Tree
ruled = two 5 (leaf 0) (leaf 7)

-- ---- lines: line 0 is used twice, and line 1 never

abbrev pub lines : ℕ → Combination
lines k = slice_index_or (nullary 7 ∷ nullary 9 ∷ binary 0 0 5 ∷ []) k (nullary 0)

abbrev pub kept : ℕ → Bool
kept k = k == 0 || k == 2

abbrev pub anew : ℕ → Combination
anew k = slice_index_or (nullary 7 ∷ binary 0 0 5 ∷ []) k (nullary 0)

-- ---- the labels below 4, in two atoms of two labels each

abbrev pub quarters : Alphabet
quarters k x = nat_lt x 4

abbrev pub half : ℕ → ℕ
half x = x / 2

abbrev pub double : ℕ → ℕ
double a = 2 * a

pub record Examples : Type 0 where
  -- trees
  pub high : height sample ≡ 3
  pub plugged : plug gap (leaf 1) ≡ sample
  pub over : Over bits sample
  pub not_over : Over bits (leaf 2) → ⊥
  pub congruent : Congruent bits zeros (leaf 0) (one 0 (leaf 0))
  pub incongruent : Congruent bits zeros (leaf 0) (leaf 1) → ⊥
  -- two classes of trees, and no more
  pub apart : Apart bits zeros 2
  pub not_apart : Apart bits zeros 3 → ⊥
  -- automata
  pub has : run solo sample ≡ 1
  pub normal : NormalForm bits zeros solo
  pub both_round_1 : (normal.numbered.round 0 ≡ 1) × (normal.numbered.round 1 ≡ 1)
  pub same : Same bits solo changed
  pub not_same : Same bits solo flipped → ⊥
  -- the same language with other numbers
  pub flipped_for : For bits zeros flipped
  pub flipped_not_numbered : Numbered bits flipped → ⊥
  -- the same language with a state too many, found in round 2
  pub spare_for : For bits zeros spare
  pub spare_numbered : Numbered bits spare
  pub spare_round_2 : spare_numbered.round 2 ≡ 2
  pub spare_not_normal : NormalForm bits zeros spare → ⊥
  -- its states in classes
  pub reachable : Reachable bits spare
  pub refines : Refines bits spare (λ s. 0) joined
  pub separate : Separate bits spare joined
  pub not_separate : Separate bits spare (λ s. s) → ⊥
  pub stable : Stable bits spare joined
  pub not_stable : Stable bits spare (λ s. 0) → ⊥
  pub quotient : Quotient bits spare joined solo
  -- rules
  pub can_have : CanHave rules ruled 2
  pub cannot_have : CanHave rules ruled 1 → ⊥
  pub accepted : Accepts rules (λ s. nat_eq s 2) ruled
  -- lines
  pub ordered : Ordered 3 lines
  pub stands : Stands lines 2 (two 5 (leaf 7) (leaf 7))
  pub unused : LeadsBack lines 2 1 → ⊥
  pub renumbered : Renumbered lines 2 kept anew
  -- pairs: the first split one is that of a leaf with the label 1
  pub pairs : Pairs bits solo anything solo
  pub first_split : FirstSplit pairs 1
  -- atoms
  pub atoms : Atoms quarters bits half double
  pub normal_by_atoms : NormalForm quarters (λ t. zeros (relabel half t)) (by_atoms half solo)

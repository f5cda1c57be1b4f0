-- An atom over the states of children.
use Rattle.std.specs.Prelude.{ℕ, ◌<◌}
use Rattle.trees.specs.Rounds.{Combination, nullary, unary, binary}
use Rattle.bench.specs.Shelves.{none_at, single_at, double_at}
use Rattle.bench.specs.declared.children.Children.{Children}
use Rattle.bench.specs.declared.children.Children.TheVariants.{No, One, Two}

abbrev pub combine : Children → ℕ → Combination
combine No a = nullary a
combine (One p) a = unary p a
combine (Two p q) a = binary p q a

-- where a shelf has its state
abbrev pub place_at : Children → ℕ → ℕ
place_at No a = none_at a
place_at (One p) a = single_at p a
place_at (Two p q) a = double_at p q a

-- every child's state is below n
abbrev pub Inside : ℕ → Children → Type 0
Inside n No = Unit {0}
Inside n (One p) = p < n
Inside n (Two p q) = (p < n) × (q < n)

-- the children of a line, by the states of the lines
abbrev pub over : (ℕ → ℕ) → Combination → Children
over f (nullary x) = No
over f (unary p x) = One (f p)
over f (binary p q x) = Two (f p) (f q)

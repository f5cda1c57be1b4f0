-- Places in a list, by an equality of what it holds.
use Rattle.std.specs.Prelude.{ℕ, ◌+◌, Bool, cond, List, [], ◌∷◌}

-- where the thing stands, by an equality; the length of the list where it does not
abbrev pub place_of : {E : Type 0} → (E → E → Bool) → List E → E → ℕ
place_of equal [] e = 0
place_of equal (x ∷ xs) e = cond (equal x e) 0 (place_of equal xs e + 1)

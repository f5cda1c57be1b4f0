-- Sets of guard numbers as the bits of a number.
use Rattle.std.specs.Prelude.{◌≡◌, ℕ, ◌/◌, ◌%◌, ◌^◌, Bool, true, false, ◌==◌}

-- guard g is in the set s: bit g of s is 1
unfoldable pub has : ℕ → ℕ → Bool
has s g = s / 2 ^ g % 2 == 1

-- every guard of ins is in s, and no guard of outs
pub record Between (ins outs s : ℕ) : Type 0 where
  pub every : (g : ℕ) → has ins g ≡ true → has s g ≡ true
  pub none : (g : ℕ) → has outs g ≡ true → has s g ≡ false

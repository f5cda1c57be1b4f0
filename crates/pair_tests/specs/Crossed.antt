-- What a guard of a pair holds of.
use Rattle.std.specs.Prelude.{◌≡◌, ℕ, ◌&&◌}
use Rattle.labels.specs.Meaning.{Meaning}
use Rattle.pairs.specs.Pairs.{both_hold, pair_label}

-- guard g of the pair m of a and b holds where guard i of a and guard j of b do
abbrev pub HoldsWhere : Meaning → Meaning → Meaning → ℕ → ℕ → ℕ → Type 0
HoldsWhere m a b g i j = (x : ℕ) → m.holds g x ≡ (pair_label a b x && both_hold a b (record { first = i; second = j }) x)

-- The values where no guard has one.
use Rattle.std.proofs.Common.{◌≡◌, ℕ, ◌<◌, true, ◌≢◌, replicate, is_some, Some, None, Option, ⊎_elim, arith}
use Rattle.std.proofs.lemmas.Bool.{cases_lt}
use Rattle.std.proofs.lemmas.List.{get_or-replicate, get_or_past, length-replicate}
use Rattle.pairs.specs.Pairs.{value_at}
use Rattle.pairs.specs.declared.value.PairValue.{PairValue}

abbrev pub nothing : Option PairValue
nothing = None

module _ (n g : ℕ) where
  pub none_at : value_at (replicate n nothing) g ≡ None
  none_at = ⊎_elim (get_or-replicate n g nothing nothing) (λ past. get_or_past (replicate n nothing) g nothing (omega (arith, length-replicate n nothing))) (cases_lt g n)

  pub none_known : is_some (value_at (replicate n nothing) g) ≢ true
  none_known e = let absent = none_at in cc

  pub none_small : (v : PairValue) → value_at (replicate n nothing) g ≡ Some v → (v.first < 32) × (v.second < 32)
  none_small v e = absurd (let absent = none_at in cc)

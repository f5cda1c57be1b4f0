use Rattle.std.proofs.Common.{◌≡◌, true, false, is_some, refl, arith, rules, tests}
use Rattle.std.proofs.lemmas.Iterator.{cases_from_all, YieldsList-from_range}
use Rattle.std.proofs.lemmas.Grind.{common_steps}
use Rattle.labels.specs.Sets.{has}
use Rattle.pairs.specs.Pairs.{value_at}
use Rattle.pairs.proofs.Gathering.{given_all}
use Rattle.pairs.proofs.values.Values.all_given.Goals as goal

pub returns : goal.returns
returns c =
    let vs = c.args.self.now.list in
    let gs = c.args.guards.0 in
    given_all vs gs (search rules) _
    (cases_from_all _ _ _ (λ g. has gs g ≡ true → is_some (value_at vs g) ≡ true) (λ g. (has gs g ≡ true) × (is_some (value_at vs g) ≡ false)) c.all.ensures.ran (YieldsList-from_range 0 32 32 refl refl)
    (λ g q k. grind (arith, tests, common_steps)) (λ g q k. grind (arith, tests, common_steps)))

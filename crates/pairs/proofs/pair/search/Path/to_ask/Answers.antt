use Rattle.std.proofs.Common.{◌≡◌, ◌≢◌, true, rules, tests}
use Rattle.std.proofs.lemmas.Iterator.{first_from_Range}
use Rattle.labels.specs.Sets.{has}
use Rattle.pairs.proofs.Gathering.{next_found}
use Rattle.pairs.proofs.pair.search.Path.to_ask.Goals as goal

pub returns : goal.returns
returns c =
    let s = c.args.self.asked.0 in
    next_found s c.args.self.next (search rules) _
    (first_from_Range _ _ _ _ (λ k. has s k ≡ true) (λ k. has s k ≢ true) c.find.ensures.ran (λ k q r. search (rules, tests)) (λ k q r. search (rules, tests)))

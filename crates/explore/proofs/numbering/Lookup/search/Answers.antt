use Rattle.std.proofs.Common.{◌≡◌, true, false, rules, tests}
use Rattle.std.proofs.lemmas.Iterator.{IsFirst-from_position, YieldsList-from_slice}
use Rattle.explore.proofs.Places.{finds_first}
use Rattle.explore.proofs.numbering.Lookup.search.Goals as goal

pub returns : goal.returns
returns g c =
    let equal = g.E.Entry.equal in
    let e = c.args.e.now in
    finds_first equal g.met.E.Entry.exact c.args.self.now.entries.now e c.position.result (IsFirst-from_position _ _ c.position.result (λ x. equal x e ≡ true) (λ x. equal x e ≡ false) c.position.ensures.ran (YieldsList-from_slice c.args.self.now.entries.now cc) (λ x q k. search (rules, tests)) (λ x q k. search (rules, tests)))

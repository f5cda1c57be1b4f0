use Rattle.std.proofs.Common.{◌≡◌, ℕ, ◌*◌, ◌+◌, ◌-◌, ◌<◌, length, take, drop, ap, ◌∙◌, of_calls}
use Rattle.std.specs.Option.{IfSome}
use Rattle.bench.proofs.Pieces.{cut_stored}
use Rattle.bench.proofs.bench.Bench.shelf.Goals as goal

pub returns : goal.returns
returns c =
    let self = c.args.self.now in
    let k : ℕ = c.args.k in
    let said = c.then.ensures.some in
    let cut : IfSome c.then.result (λ s. s.now ≡ take (k * 16945 + 16945 - k * 16945) (drop (k * 16945) self.bytes.now)) = search (said, of_calls) in
    cut_stored self.table.count self.bytes.now self.sound k c.shelves.result c.shelves.ensures c.then.result c.then.ensures.variant cut

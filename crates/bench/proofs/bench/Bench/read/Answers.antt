use Rattle.bench.proofs.Reading.{sound_few, sound_complete}
use Rattle.bench.proofs.bench.Bench.read.Goals as goal

pub invariant_of-result : goal.invariant_of-result
invariant_of-result c =
    let found = c.in_ok-bytes.ensures in
    record { long = found.long; few = sound_few _ _ found.sound; complete = sound_complete _ _ found.sound }

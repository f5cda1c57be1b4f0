use Rattle.std.proofs.Common.{arith}
use Rattle.labels.proofs.Tables.{fresh_known}
use Rattle.labels.proofs.tags.Tags.new.Goals as goal

pub invariant_of-result : goal.invariant_of-result
invariant_of-result c = record { few = omega arith; known = fresh_known 64 }

use Rattle.atoms.proofs.Tables.{one_sound}
use Rattle.atoms.proofs.table.AtomTable.fresh.Goals as goal

pub of_atoms-requires-clause-sound : goal.of_atoms-requires-clause-sound
of_atoms-requires-clause-sound c = one_sound _ c.default.ensures.1

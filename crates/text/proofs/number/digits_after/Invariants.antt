use Rattle.text.proofs.Reading.{Read}
use Rattle.text.proofs.number.digits_after.Given as goal

abbrev pub invariant-loop-c : goal.invariant-loop-c
invariant-loop-c l = Read l.base l.before l.word l.c-index l.n

use Rattle.std.proofs.Common.{sym, subst, arith}
use Rattle.explore.specs.Firsts.{first_at}
use Rattle.explore.specs.Rounds.{InRound, entry_at}
use Rattle.explore.proofs.Finding.{all_found}
use Rattle.explore.proofs.Positions.{begin, next_round}
use Rattle.explore.proofs.rounds.all_rounds.Goals as goal

pub labels-requires-clause-stands : goal.labels-requires-clause-stands
labels-requires-clause-stands g c =
    let S = g.S.Stepping.steps c.args.steps.now in
    record { room = c.requires.room; at = rw c.requires.empty (begin S (entry_at S c.args.found.now.entries.now) (first_at c.args.firsts.now)) }

pub singles-requires : goal.singles-requires
singles-requires g c =
    let S = g.S.Stepping.steps c.args.steps.now in
    let s = c.loop-round.found in
    let from = c.loop-round.round.start in
    let stands = c.loop-round.invariant.0 in
    record { sound = c.requires.sound; stands = record { room = stands.room; at = subst (λ n. InRound S (entry_at S s.entries.now) (first_at c.loop-round.firsts) s.len from n 1 from 0 0) (sym c.len-in-loop-round.ensures) (next_round stands.at) } }

pub returns : goal.returns
returns g c =
    let at = c.loop-round.invariant.0.at in
    (all_found at (omega (arith, c.loop-round-test.false, c.len.ensures, at.ordered.1)), c.loop-round.invariant.1)

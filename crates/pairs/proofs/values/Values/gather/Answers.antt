use Rattle.std.proofs.Common.{◌≡◌, ◌<◌, ◌∙◌, true, Some, sym, rules, arith}
use Rattle.labels.specs.Sets.{has}
use Rattle.pairs.specs.Pairs.{value_at}
use Rattle.pairs.proofs.Gathering.{one_passed, one_kept, all_gathered}
use Rattle.pairs.proofs.values.Values.gather.Goals as goal
use Rattle.pairs.proofs.values.Values.gather.Goals.{then-contains+in-Some+then-keep, else-contains, else-contains-via-then-contains+in-None-1, else-contains-via-else-contains, else-contains-via-then-contains+in-Some+else-keep}

pub loop-g-preserved : goal.loop-g-preserved
loop-g-preserved g c kept number keeps parts =
    let vs = c.args.self.now.list in
    let gs = c.args.guards.0 in
    let i = c.loop-g.g in
    let sofar = c.loop-g.invariant kept number keeps parts in
    elim c.if-contains.branch [
      | then-contains+in-Some+then-keep w ↦
          let v = w.in-Some.v in
          let chosen : has gs i ≡ true = search rules in
          let given : value_at vs i ≡ Some v = search rules in
          let low = c.args.self.now.small i v given in
          let number-is = parts v w.part.result w.part.ensures in
          let small : number v < 32 = omega (arith, c.requires.small v low.0 low.1 w.part.result w.part.ensures) in
          rw w.set-is (one_kept vs gs kept number i c.loop-g.set.0 sofar v w.with-set.result.0 chosen given (sym (keeps v w.keep.result w.keep.ensures) ∙ w.if-keep.true) small (rw number-is at w.with-set.ensures))
      | else-contains w ↦ rw w.set-is (one_passed vs gs kept number i c.loop-g.set.0 sofar (λ v chosen given is.
          elim w.else-contains.branch [
            | else-contains-via-then-contains+in-None-1 w' ↦ search rules
            | else-contains-via-else-contains w' ↦ search rules
            | else-contains-via-then-contains+in-Some+else-keep w' ↦ let says = keeps w'.in-Some.v w'.keep.result w'.keep.ensures in search rules
          ]))
    ]

pub returns : goal.returns
returns g c kept number keeps parts = all_gathered c.args.self.now.list c.args.guards.0 kept number c.loop-g.g c.loop-g.set.0 c.loop-g-test.false (search rules) (c.loop-g.invariant kept number keeps parts)

use Rattle.bench.proofs.Evaluating.{ran_tests}
use Rattle.bench.proofs.bench.Bench.test.Goals as goal

pub returns : goal.returns
returns g c =
    let found = rw c.in_ok-shelf.ensures.ok_part at c.read.ensures in
    let shelf = c.in_ok-shelf.shelf in
    ran_tests (g.K.LabelKind.book c.args.kind.now).meaning c.args.self.now.table c.args.self.now.bytes.now c.args.shelf c.args.nodes.now shelf.table.now shelf.bytes.now c.in_ok-state.state c.accepts.result found.0 found.1 found.2 c.in_ok-check_count.ensures c.in_ok-check_shape.ensures c.in_ok-state.ensures c.accepts.ensures

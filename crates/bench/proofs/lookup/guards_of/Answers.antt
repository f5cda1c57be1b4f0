use Rattle.std.proofs.Common.{of_calls, sym, ◌∙◌, ⊎_elim, arith}
use Rattle.std.proofs.lemmas.Bool.{cases_lt, false_from_ne_true}
use Rattle.bench.proofs.lookup.guards_of.Goals as goal

pub returns : goal.returns
returns g c = λ h.
    let x = c.args.x in
    let m = (g.K.LabelKind.book c.args.kind.now).meaning in
    let law = c.lawful.ensures in
    ⊎_elim
    (λ low. let said = c.from_fn.ensures.chosen h low in search (said, of_calls))
    (λ high. c.from_fn.ensures.small h high ∙ sym (false_from_ne_true (m.holds h x) (λ holds. let inside = (law.inside h x holds).0 in let few = law.few in omega arith)))
    (cases_lt h 32)

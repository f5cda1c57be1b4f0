use Rattle.std.proofs.Common.{sym, ◌∙◌, subst, length}
use Rattle.atoms.specs.Atoms.{Lists}
use Rattle.atoms.specs.Entries.{Sound}
use Rattle.atoms.proofs.Tables.{lists_sound, lists_same, not_more}
use Rattle.atoms.proofs.find.atoms.Goals as goal

pub of_atoms-requires-clause-sound : goal.of_atoms-requires-clause-sound
of_atoms-requires-clause-sound g c =
    let m = (g.K.LabelKind.book c.args.kind.now).meaning in
    let listed = subst (λ xs. Lists m xs (length xs)) (sym c.deref.ensures.0) c.in_ok-found.ensures in
    subst (Sound c.deref.result.now (length c.deref.result.now)) (sym c.count.ensures) (lists_sound m c.lawful.ensures c.deref.result.now listed)

pub returns : goal.returns
returns g c =
    let m = (g.K.LabelKind.book c.args.kind.now).meaning in
    let t = c.of_atoms.result in
    let made = c.of_atoms.ensures in
    let listed = subst (λ xs. Lists m xs (length xs)) (sym c.deref.ensures.0) c.in_ok-found.ensures in (
      record {
        lists = subst (Lists m t.atoms) (sym made.count) (lists_same c.deref.result.now t.atoms made.atoms listed);
        guards = made.guards ∙ c.count.ensures;
        unlabelled = t.unlabelled;
        unguarded = t.unguarded;
      },
      c.count-2.ensures,
      c.guards.ensures,
      not_more m c.lawful.ensures c.deref.result.now listed 16 c.deref.ensures.1,
    )

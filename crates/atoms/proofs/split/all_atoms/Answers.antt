use Rattle.std.proofs.Common.{◌≡◌, length, sym, subst, rules, arith}
use Rattle.arrayvec.proofs.ArrayVecLemmas.{items-with_items}
use Rattle.std.proofs.lemmas.List.Sorted.{length_permutation, IsNonDecreasingBy-from_sort_by_key}
use Rattle.std.specs.List.Sorted.{IsPermutation}
use Rattle.atoms.specs.Atoms.{Lists}
use Rattle.atoms.specs.Drafts.{first, Covers}
use Rattle.atoms.specs.declared.atom.Atom.{Atom}
use Rattle.atoms.proofs.Covering.{covers_none, sorted_lists}
use Rattle.atoms.proofs.Dividing.{kept_covers, first_covers, last_covers}
use Rattle.atoms.proofs.split.all_atoms.Goals as goal

pub loop-g-init : goal.loop-g-init
loop-g-init g c =
    let m = (g.K.LabelKind.book c.args.kind.now).meaning in
    first_covers m c.none.result.0 _ c.none.ensures
    (kept_covers c.new-atoms.result c.keep.new.parts c.none.result.0 (λ y e d. d) (rw c.new-atoms.ensures (covers_none (first 0 m))) _ c.in_ok-keep.ensures)

pub returns : goal.returns
returns g c =
    let m = (g.K.LabelKind.book c.args.kind.now).meaning in
    let found = c.loop-g.atoms in
    let sorted = c.sort_unstable_by_key.new.self in
    let all : c.loop-g.g ≡ m.guards = omega (arith, c.count-g-end.ensures) in
    let whole = last_covers m found.items c.lawful.ensures (subst (λ n. Covers (first n m) (λ x. Unit {0}) found.items) all c.loop-g.invariant) in
    let moved : IsPermutation found.items sorted = subst (λ xs. IsPermutation xs sorted) c.deref_mut.ensures.value c.sort_unstable_by_key.ensures.permutation in
    let up = IsNonDecreasingBy-from_sort_by_key (λ (a : Atom). a.label) sorted c.sort_unstable_by_key.ensures.sorted (λ a r q k. search rules) in
    subst (λ xs. Lists m xs (length xs)) (sym (items-with_items found sorted (length_permutation _ _ moved))) (sorted_lists whole moved up)

use Rattle.std.proofs.Common.{◌≡◌, ℕ, replicate, length, drop, ◌++◌, ap, ◌∙◌}
use Rattle.std.proofs.lemmas.List.{get_or_past}
use Rattle.std.proofs.lemmas.List.Elements.{All-replicate, All-drop}
use Rattle.atoms.specs.Entries.{blank, atom_at, Sound}
use Rattle.atoms.specs.declared.atom.Atom.{Atom}
use Rattle.atoms.proofs.Tables.{padded, is_blank, sound_same}
use Rattle.atoms.proofs.table.AtomTable.of_atoms.Goals as goal

same : (c : goal.After-atoms-2-1) → (k : ℕ) → atom_at (c.copy_from_slice.new.self ++ drop (length c.args.found.now) (replicate 16 c.default-atoms.result)) k ≡ atom_at c.args.found.now k
same c k =
    let a = c.default-atoms.result in
    padded _ _ (All-drop (λ b. b ≡ blank) (length c.args.found.now) (replicate 16 a) (All-replicate (λ b. b ≡ blank) 16 a (is_blank a c.default-atoms.ensures))) k
    ∙ ap (λ xs. atom_at xs k) c.copy_from_slice.ensures.after

sound : (c : goal.After-atoms-2-1) → Sound (c.copy_from_slice.new.self ++ drop (length c.args.found.now) (replicate 16 c.default-atoms.result)) (length c.args.found.now) c.args.guards
sound c = sound_same c.args.found.now _ (same c) c.requires.sound

pub invariant_of-result-clause-rises : goal.invariant_of-result-clause-rises
invariant_of-result-clause-rises c = (sound c).rises

pub invariant_of-result-clause-apart : goal.invariant_of-result-clause-apart
invariant_of-result-clause-apart c = (sound c).apart

pub invariant_of-result-clause-known : goal.invariant_of-result-clause-known
invariant_of-result-clause-known c = (sound c).known

pub invariant_of-result-clause-unlabelled : goal.invariant_of-result-clause-unlabelled
invariant_of-result-clause-unlabelled c = λ k h. ap (λ (a : Atom). a.label) (same c k ∙ get_or_past c.args.found.now k blank h)

pub invariant_of-result-clause-unguarded : goal.invariant_of-result-clause-unguarded
invariant_of-result-clause-unguarded c = λ k h. ap (λ (a : Atom). a.guards.0) (same c k ∙ get_or_past c.args.found.now k blank h)

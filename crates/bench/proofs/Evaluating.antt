-- The states of nodes, each from those of the nodes before it.
use Rattle.std.proofs.Common.{◌≡◌, ℕ, zero, suc, ◌+◌, ◌<◌, Bool, List, [], ◌∷◌, ◌++◌, length, get_or, Ok, sym, refl, ap, ◌∙◌, subst, arith, below_more}
use Rattle.std.proofs.lemmas.List.{get_or_append_left, get_or_push}
use Rattle.std.proofs.lemmas.Bool.{lt-ltb}
use Rattle.labels.specs.Meaning.{Meaning}
use Rattle.atoms.specs.Atoms.{Exactly}
use Rattle.atoms.specs.Entries.{set_at}
use Rattle.atoms.specs.declared.atom.Atom.{Atom}
use Rattle.atoms.specs.declared.table.AtomTable.{AtomTable}
use Rattle.trees.specs.Trees.{leaf, one, two}
use Rattle.trees.specs.Automata.{Automaton, Complete}
use Rattle.trees.specs.Rounds.{Combination, nullary, unary, binary, Below, step}
use Rattle.trees.specs.Trees.{letters}
use Rattle.bench.specs.Combining.{combine, over}
use Rattle.bench.specs.Nodes.{line_of, line, node_at, line_at, Counted, AllShaped}
use Rattle.bench.specs.Benches.{shelves_in, shelf_at}
use Rattle.bench.specs.Shelves.{automaton}
use Rattle.bench.specs.Testing.{HasState, Roots, Tests}
use Rattle.bench.specs.declared.node.Node.{Node}

abbrev label_of : Combination → ℕ
label_of (nullary x) = x
label_of (unary p x) = x
label_of (binary p q x) = x

label_line : (n x p q : ℕ) → label_of (line_of n x p q) ≡ x
label_line zero x p q = refl
label_line (suc zero) x p q = refl
label_line (suc (suc n)) x p q = refl

-- node k has the state s, which is one of the automaton
pub record Evaluated (m : Meaning) (xs : List Atom) (n : ℕ) (A : Automaton) (nodes : List Node) (k s : ℕ) : Type 0 where
  pub has : HasState m xs n A nodes k s
  pub small : s < A.size

module _ (m : Meaning) (xs : List Atom) (n : ℕ) (A : Automaton) (complete : Complete (letters n) A) (nodes : List Node) (f : ℕ → ℕ) (k a : ℕ) (l : a < n) (before : (p : ℕ) → p < k → Evaluated m xs n A nodes p (f p)) where
  -- a node gets its state from those of its children
  line_evaluated : (c : Combination) → line_at nodes k ≡ c → Below k c → Exactly m (set_at xs a) (label_of c) → Evaluated m xs n A nodes k (step A (combine (over f c) a))
  line_evaluated (nullary x) e b exact = record {
    has = record { tree = leaf x; stands = e; runs = (a, l, exact, refl) };
    small = complete.none a (lt-ltb a n l);
  }
  line_evaluated (unary p x) e b exact =
      let child = before p b in
      record {
        has = record { tree = one x child.has.tree; stands = (p, e, child.has.stands); runs = (a, l, exact, f p, child.has.runs, refl) };
        small = complete.single (f p) a child.small (lt-ltb a n l);
      }
  line_evaluated (binary p q x) e b exact =
      let left = before p b.0 in
      let right = before q b.1 in
      record {
        has = record {
          tree = two x left.has.tree right.has.tree;
          stands = (p, q, e, left.has.stands, right.has.stands);
          runs = (a, l, exact, f p, f q, left.has.runs, right.has.runs, refl);
        };
        small = complete.double (f p) (f q) a left.small right.small (lt-ltb a n l);
      }

  node_evaluated : Below k (line_at nodes k) → Exactly m (set_at xs a) (node_at nodes k).label → Evaluated m xs n A nodes k (step A (combine (over f (line_at nodes k)) a))
  node_evaluated b exact =
      let node = node_at nodes k in
      line_evaluated (line node) refl b (subst (Exactly m (set_at xs a)) (sym (label_line node.children node.label node.left node.right)) exact)

-- one node more
pub one_evaluated : (m : Meaning) (xs : List Atom) (n : ℕ) (A : Automaton) → Complete (letters n) A → (nodes : List Node) (states : List ℕ) (i a s : ℕ) → length states ≡ i → a < n → Exactly m (set_at xs a) (node_at nodes i).label → Below i (line_at nodes i) → s ≡ step A (combine (over (λ k. get_or states k 0) (line_at nodes i)) a) → ((k : ℕ) → k < i → Evaluated m xs n A nodes k (get_or states k 0)) → (k : ℕ) → k < i + 1 → Evaluated m xs n A nodes k (get_or (states ++ s ∷ []) k 0)
one_evaluated m xs n A complete nodes states i a s w l exact b e h =
    let P : ℕ → ℕ → Type 0 = λ j x. Evaluated m xs n A nodes j x in
    below_more (λ k. P k (get_or (states ++ s ∷ []) k 0)) i
    (λ k below. subst (P k) (sym (get_or_append_left states (s ∷ []) 0 k (omega arith))) (h k below))
    (subst (P i) (sym (get_or_push states s 0 i w ∙ e)) (node_evaluated m xs n A complete nodes (λ j. get_or states j 0) i a l h b exact))

-- the root's state tells whether the shelf accepts
pub ran_tests : (m : Meaning) (table : AtomTable) (bytes : List ℕ) (k : ℕ) (nodes : List Node) (used : AtomTable) (bs : List ℕ) (s : ℕ) (b : Bool) → k < shelves_in (length bytes) → bs ≡ shelf_at bytes k → used ≡ table → Counted nodes → AllShaped nodes → Roots m used.atoms used.count (automaton bs) nodes (Ok s) → b ≡ (automaton bs).accepts s → Tests m table.atoms table.count bytes k nodes (Ok b)
ran_tests m table bytes k nodes used bs s b on same own counted shaped ran e =
    let Roots' : AtomTable → List ℕ → Type 0 = λ t cs. Roots m t.atoms t.count (automaton cs) nodes (Ok s) in
    let root = subst (λ cs. Roots' table cs) same (subst (λ t. Roots' t bs) own ran) in
    (on, counted, shaped, root.1, s, root.2, e ∙ ap (λ cs. (automaton cs).accepts s) same)

-- A fresh shelf is laid out, and in normal form: it has one state, so all trees have it.
use Rattle.std.proofs.Common.{ℕ, ◌≤◌, List, refl, arith}
use Rattle.std.proofs.lemmas.Bool.{lt-ltb}
use Rattle.trees.specs.Automata.{Complete}
use Rattle.trees.specs.Rounds.{Combination, nullary, unary, binary, Numbered, Before}
use Rattle.trees.proofs.Running.{run_below}
use Rattle.trees.specs.Trees.{letters}
use Rattle.bench.specs.Shelves.{automaton, Laid, Sound, Fresh}

-- nothing is tried before the childless node with atom 0
none_before : (c : Combination) → Before (λ _. 1) c (nullary 0) → ⊥
none_before (nullary a) h = omega arith
none_before (unary p a) h = omega arith
none_before (binary p q a) h = omega arith

module _ (n : ℕ) (some : 1 ≤ n) (bs : List ℕ) (f : Fresh bs) where
  fresh_laid : Laid n bs
  fresh_laid =
      let one = f.one in
      record {
        long = f.long;
        some = omega arith;
        few = omega arith;
        flags = λ s l. grind arith;
        no_flag = λ s l h. grind arith;
        no_none = λ a l h. grind arith;
        no_single = λ p a l m h. grind arith;
        no_double = λ p q a l m o h. grind arith;
      }

  complete : Complete (letters n) (automaton bs)
  complete =
      let one = f.one in
      record {
        none = λ a h. grind arith;
        single = λ p a l h. grind arith;
        double = λ p q a l m h. grind arith;
      }

  numbered : Numbered (letters n) (automaton bs)
  numbered =
      let one = f.one in
      record {
        first = λ _. nullary 0;
        round = λ _. 1;
        leads = λ s l. omega (arith, f.rest 33 (omega arith));
        allowed = λ s l. lt-ltb 0 n some;
        earlier = λ s l. tt;
        rounds = λ s l. refl;
        rises = λ s t l h. absurd (omega arith);
        least = λ s c l b a e h. none_before c h;
      }

  pub fresh_sound : Sound n bs
  fresh_sound =
      let one = f.one in
      record {
        laid = fresh_laid;
        normal = record {
          accepts = record { complete = complete; exact = λ t o. refl };
          reduced = λ t u ot ou c.
              let p = run_below (letters n) (automaton bs) complete t ot in
              let q = run_below (letters n) (automaton bs) complete u ou in
              omega arith;
          numbered = numbered;
        };
      }

-- In the automaton of a list of things, the state of a tree is the place of its thing.
use Rattle.std.proofs.Common.{◌≡◌, Bool, List, Decides, ap, ◌∙◌, ap₂}
use Rattle.trees.specs.Automata.{Complete, run}
use Rattle.trees.specs.Trees.{Tree, leaf, one, two, Over, letters}
use Rattle.trees.proofs.Running.{run_below}
use Rattle.explore.specs.Listing.{numbers_of}
use Rattle.explore.specs.Rounds.{entry_at}
use Rattle.explore.specs.Steps.{Steps, thing}
use Rattle.explore.proofs.Places.{place_is}

module _ {E : Type 0} (S : Steps E) (equal : E → E → Bool) (exact : (x y : E) → Decides (equal x y) (x ≡ y)) (es : List E) (complete : Complete (letters S.atoms) (numbers_of S equal es)) where
  pub run_thing : (t : Tree) → Over (letters S.atoms) t → entry_at S es (run (numbers_of S equal es) t) ≡ thing S t
  run_thing (leaf a) o = place_is equal exact es (S.none a) (S.none 0) (complete.none a o)
  run_thing (one a t) o =
      let p = run (numbers_of S equal es) t in
      place_is equal exact es (S.single (entry_at S es p) a) (S.none 0) (complete.single p a (run_below (letters S.atoms) (numbers_of S equal es) complete t o.1) o.0) ∙ ap (λ x. S.single x a) (run_thing t o.1)
  run_thing (two a t u) o =
      let p = run (numbers_of S equal es) t in
      let q = run (numbers_of S equal es) u in
      place_is equal exact es (S.double (entry_at S es p) (entry_at S es q) a) (S.none 0) (complete.double p q a (run_below (letters S.atoms) (numbers_of S equal es) complete t o.1) (run_below (letters S.atoms) (numbers_of S equal es) complete u o.2) o.0) ∙ ap₂ (λ x y. S.double x y a) (run_thing t o.1) (run_thing u o.2)

-- Lists of all things that steps lead to, as automata.
use Rattle.std.specs.Prelude.{◌≡◌, ℕ, ◌<◌, ◌≤◌, Bool, true, List, length}
use Rattle.trees.specs.Automata.{Complete}
use Rattle.trees.specs.Trees.{letters}
use Rattle.explore.specs.Listing.{numbers_of}
use Rattle.explore.specs.Numbers.{Alike}
use Rattle.explore.specs.Rounds.{entry_at}
use Rattle.explore.specs.Steps.{Steps}

-- the list has at most 1,024 things, each once, and no step leads out of it
pub record Whole {E : Type 0} (S : Steps E) (equal : E → E → Bool) (es : List E) : Type 0 where
  pub some : 1 ≤ length es
  pub few : length es ≤ 1024
  pub once : (i j : ℕ) → i < j → j < length es → Alike es i j → ⊥
  pub fine : (k : ℕ) → k < length es → S.fine (entry_at S es k) ≡ true
  pub complete : Complete (letters S.atoms) (numbers_of S equal es)

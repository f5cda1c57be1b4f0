-- What is looked at: an automaton with its states in classes, whose states may answer tests alike.
use Rattle.std.specs.Prelude.{ℕ, ◌<◌, Option, MatchOption}
use Rattle.trees.specs.Automata.{Automaton}
use Rattle.trees.specs.Classes.{Stable}
use Rattle.minimize.specs.Automata.{atoms_below}
use Rattle.minimize.specs.Tests.{at, answer_of, Alike, Splits}
use Rattle.minimize.specs.declared.automaton.TreeAutomaton.{Ghosts}
use Rattle.minimize.specs.declared.partitioned.Partitioned.{Partitioned}
use Rattle.minimize.specs.declared.test.Test.{Test}
use Rattle.minimize.specs.declared.test.Test.TheVariants.{Accepts, Single, Left, Right}
use Rattle.minimize.specs.declared.test.Found.{Found}

module _ {M R : Type 0} {g : Ghosts M R} (s : Partitioned M R g) where
  abbrev pub atom_count : ℕ
  atom_count = g.letters s.machine.now

  abbrev pub automaton : Automaton
  automaton = g.meaning s.machine.now

  -- the class of a state
  abbrev pub class_of : ℕ → ℕ
  class_of = at s.classes.now

  -- the representative of a class
  abbrev pub rep_of : ℕ → ℕ
  rep_of = at s.reps.now

  -- what the test says of a state
  abbrev pub says : Test → ℕ → ℕ
  says = answer_of automaton s.classes.now

  -- the state answers the test as the representative of its class does
  abbrev pub AnswersAlike : Test → ℕ → Type 0
  AnswersAlike = Alike automaton s.classes.now s.reps.now

  -- the state answers the test otherwise
  abbrev pub SplitBy : Found → Type 0
  SplitBy = Splits atom_count automaton s.classes.now s.reps.now

  -- a state that splits its class was found, or All holds of what was looked at
  abbrev pub Looked : Type 0 → Option Found → Type 0
  Looked All r = MatchOption r All SplitBy

  -- p is alike as the one child
  abbrev pub SingleAlike : ℕ → Type 0
  SingleAlike p = (a : ℕ) → a < atom_count → AnswersAlike (Single a) p

  -- p is alike on the left of each of the representatives
  abbrev pub LeftAlike : ℕ → Type 0
  LeftAlike p = (i a : ℕ) → i < s.count → a < atom_count → AnswersAlike (Left (rep_of i) a) p

  -- all states are alike on the right of x
  abbrev pub RightAlike : ℕ → Type 0
  RightAlike x = (y a : ℕ) → y < automaton.size → a < atom_count → AnswersAlike (Right x a) y

  -- p is alike under every test but those with a state on its left or with one that is no representative on its right
  pub record Near (p : ℕ) : Type 0 where
    pub accepts : AnswersAlike Accepts p
    pub single : SingleAlike p
    pub left : LeftAlike p

  -- P holds of every state
  abbrev pub Everywhere : (ℕ → Type 0) → Type 0
  Everywhere P = (p : ℕ) → p < automaton.size → P p

  -- nothing tells two states of one class apart
  abbrev pub AllStable : Type 0
  AllStable = Stable (atoms_below atom_count) automaton class_of

-- The number of each refusal, and the place that it names.
use Rattle.std.specs.Prelude.{ℕ, List, ◌++◌, codes, decimal}
use Rattle.bench.specs.declared.refusal.Refusal.{Refusal}
use Rattle.bench.specs.declared.refusal.Refusal.TheVariants.{WorkspaceTooShort, NoSuchShelf, TooManyRules, RuleOutOfShape, TooManySets, TooManyClasses, NodeListTooShort, NodeCount, NodeOutOfShape, UnknownLabel}

abbrev pub number_of : Refusal → ℕ
number_of WorkspaceTooShort = 30
number_of NoSuchShelf = 31
number_of TooManyRules = 32
number_of (RuleOutOfShape rule) = 33
number_of TooManySets = 34
number_of TooManyClasses = 35
number_of NodeListTooShort = 40
number_of NodeCount = 41
number_of (NodeOutOfShape node) = 42
number_of (UnknownLabel node) = 43

-- the rule or the node at fault, else 0
abbrev pub place_of : Refusal → ℕ
place_of WorkspaceTooShort = 0
place_of NoSuchShelf = 0
place_of TooManyRules = 0
place_of (RuleOutOfShape rule) = rule
place_of TooManySets = 0
place_of TooManyClasses = 0
place_of NodeListTooShort = 0
place_of NodeCount = 0
place_of (NodeOutOfShape node) = node
place_of (UnknownLabel node) = node

-- what a refusal prints
abbrev pub text_of : Refusal → List ℕ
text_of WorkspaceTooShort = codes "too few cells in the workspace"
text_of NoSuchShelf = codes "no such shelf"
text_of TooManyRules = codes "more than 512 rules"
text_of (RuleOutOfShape rule) = codes "rule " ++ (decimal rule ++ codes " is out of shape")
text_of TooManySets = codes "more than 1024 sets of states"
text_of TooManyClasses = codes "more than 32 classes"
text_of NodeListTooShort = codes "fewer than 1024 places for nodes"
text_of NodeCount = codes "no node, or more than 1024"
text_of (NodeOutOfShape node) = codes "node " ++ (decimal node ++ codes " is out of shape")
text_of (UnknownLabel node) = codes "no atom for the label of node " ++ decimal node

-- A shelf: the 16,945 bytes that keep an automaton of at most 32 states over at most 16 atoms.
use Rattle.std.specs.Prelude.{◌≡◌, ℕ, ◌+◌, ◌*◌, ◌<◌, ◌≤◌, List, length, ◌==◌, slice_index, slice_index_or}
use Rattle.trees.specs.Automata.{Automaton, accepted}
use Rattle.trees.specs.Normal.{NormalForm}
use Rattle.trees.specs.Trees.{letters}

-- ---- where a byte stands: the flag of a state, and the state of a node with an atom over no, one or two states

abbrev pub flag_at : ℕ → ℕ
flag_at s = 1 + s

abbrev pub none_at : ℕ → ℕ
none_at a = 33 + a

abbrev pub single_at : ℕ → ℕ → ℕ
single_at p a = 49 + (p * 16 + a)

abbrev pub double_at : ℕ → ℕ → ℕ → ℕ
double_at p q a = 561 + ((p * 32 + q) * 16 + a)

-- byte 0 is the number of states; a flag is 1 where its state accepts
abbrev pub automaton : List ℕ → Automaton
automaton bs = record {
  size = slice_index bs 0;
  none = λ a. slice_index bs (none_at a);
  single = λ p a. slice_index bs (single_at p a);
  double = λ p q a. slice_index bs (double_at p q a);
  accepts = λ s. (slice_index bs (flag_at s) == 1);
}

-- the bytes keep an automaton over n atoms, and what they do not use is 0
pub record Laid (n : ℕ) (bs : List ℕ) : Type 0 where
  pub long : length bs ≡ 16945
  pub some : 1 ≤ slice_index bs 0
  pub few : slice_index_or bs 0 0 ≤ 32
  pub flags : (s : ℕ) → s < 32 → slice_index bs (flag_at s) ≤ 1
  pub no_flag : (s : ℕ) → s < 32 → (s < slice_index bs 0 → ⊥) → slice_index bs (flag_at s) ≡ 0
  pub no_none : (a : ℕ) → a < 16 → (a < n → ⊥) → slice_index bs (none_at a) ≡ 0
  pub no_single : (p a : ℕ) → p < 32 → a < 16 → (p < slice_index bs 0 → a < n → ⊥) → slice_index bs (single_at p a) ≡ 0
  pub no_double : (p q a : ℕ) → p < 32 → q < 32 → a < 16 → (p < slice_index bs 0 → q < slice_index bs 0 → a < n → ⊥) → slice_index bs (double_at p q a) ≡ 0

-- and the automaton is the normal form of its language
pub record Sound (n : ℕ) (bs : List ℕ) : Type 0 where
  pub laid : Laid n bs
  pub normal : NormalForm (letters n) (accepted (automaton bs)) (automaton bs)

-- one state, which does not accept; all other bytes are 0
pub record Fresh (bs : List ℕ) : Type 0 where
  pub long : length bs ≡ 16945
  pub one : slice_index_or bs 0 0 ≡ 1
  pub rest : (k : ℕ) → 0 < k → slice_index bs k ≡ 0

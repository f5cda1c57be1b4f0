-- Steps between items.
use Rattle.std.specs.Prelude.{ℕ, ◌<◌, ◌≤◌, List, length, ◌==◌, nat_lt, slice_index}
use Rattle.explore.specs.Steps.{Steps}
use Rattle.explore_tests.specs.declared.item.Item.{Item}

-- a note leads to its entry under the same key, and note 0 accepts
abbrev pub note_steps : List ℕ → Steps Item
note_steps next = record {
  atoms = 1;
  none = λ a. record { key = 7; note = 0 };
  single = λ p a. record { key = p.key; note = slice_index next p.note };
  double = λ p q a. q;
  accepts = λ p. (p.note == 0);
  fine = λ p. nat_lt p.note (length next);
}

-- there is a note, and each entry is one
pub record Sound (next : List ℕ) : Type 0 where
  pub some : 1 ≤ length next
  pub below : (k : ℕ) → k < length next → slice_index next k < length next

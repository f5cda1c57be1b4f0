-- Two shelves with one language have the same bytes.
use Rattle.std.proofs.Common.{◌≡◌, ℕ, ◌-◌, ◌/◌, ◌%◌, ◌<◌, ◌↔◌, List, get_or, sym, ap, ◌∙◌, arith}
use mathlib.Core.List.{is_set}
use mathlib.Core.Logic.{∥∥₁_elim}
use native.Mathlib.Nat.{ℕ_set}
use Rattle.std.proofs.lemmas.List.{ext_get_or}
use Rattle.std.proofs.lemmas.Bool.{lt-ltb}
use Rattle.std.proofs.lemmas.Bool.Decides.{nat_tests}
use Rattle.trees.specs.Trees.{Tree, Alphabet, Over, Language}
use Rattle.trees.specs.Automata.{Automaton, accepted}
use Rattle.trees.specs.Rounds.{nullary, unary, binary}
use Rattle.trees.specs.Normal.{NormalForm, Same}
use Rattle.trees.proofs.Running.{over_plug}
use Rattle.trees.proofs.NormalForms.{one_normal_form}
use Rattle.trees.specs.Trees.{letters}
use Rattle.bench.specs.Shelves.{automaton, flag_at, none_at, single_at, double_at, Laid, Sound}

-- the normal form of a language is the normal form of every language with the same trees over the alphabet
normal_like : (σ : Alphabet) (L M : Language) (A : Automaton) → ((t : Tree) → Over σ t → L t ≡ M t) → NormalForm σ L A → NormalForm σ M A
normal_like σ L M A e f = record {
  accepts = record { complete = f.accepts.complete; exact = λ t o. f.accepts.exact t o ∙ e t o };
  reduced = λ t u ot ou c. f.reduced t u ot ou (λ x h. e _ (over_plug σ x t h ot) ∙ c x h ∙ sym (e _ (over_plug σ x u h ou)));
  numbered = f.numbered;
}

-- what neither uses is 0 in both
module _ (n : ℕ) (bs cs : List ℕ) (b : Laid n bs) (c : Laid n cs) (same : Same (letters n) (automaton bs) (automaton cs)) where
  size : get_or bs 0 0 ≡ get_or cs 0 0
  size = same.size

  flag : (s : ℕ) → s < 32 → get_or bs (flag_at s) 0 ≡ get_or cs (flag_at s) 0
  flag s l = grind (arith, nat_tests, same.accepts s)

  none : (a : ℕ) → a < 16 → get_or bs (none_at a) 0 ≡ get_or cs (none_at a) 0
  none a l = grind (arith, lt-ltb, same.steps (nullary a) tt)

  single : (p a : ℕ) → p < 32 → a < 16 → get_or bs (single_at p a) 0 ≡ get_or cs (single_at p a) 0
  single p a l m = grind (arith, lt-ltb, same.steps (unary p a))

  double : (p q a : ℕ) → p < 32 → q < 32 → a < 16 → get_or bs (double_at p q a) 0 ≡ get_or cs (double_at p q a) 0
  double p q a l m o = grind (arith, lt-ltb, same.steps (binary p q a))

  -- every place is that of the size, of a flag or of an entry
  place : (k : ℕ) → k < 16945 → get_or bs k 0 ≡ get_or cs k 0
  place k l = grind (arith, size, flag (k - 1), none (k - 33), single ((k - 49) / 16) ((k - 49) % 16), double ((k - 561) / 512) ((k - 561) / 16 % 32) ((k - 561) % 16))

  all_same : bs ≡ cs
  all_same = ext_get_or 0 bs cs (omega arith) (λ k l. place k (omega arith))

-- the same language, exactly if the same bytes
pub same_bytes : (n : ℕ) (bs cs : List ℕ) → Sound n bs → Sound n cs → ((t : Tree) → Over (letters n) t → accepted (automaton bs) t ≡ accepted (automaton cs) t) ↔ (bs ≡ cs)
same_bytes n bs cs b c = (
  λ h.
      all_same n bs cs b.laid c.laid
      (one_normal_form (letters n) (accepted (automaton cs)) (automaton bs) (automaton cs) (normal_like (letters n) _ _ (automaton bs) h b.normal) c.normal),
  λ e t o. ap (λ xs. accepted (automaton xs) t) e,
)

-- the same of what is known of the shelves of a bench
pub stored_same_bytes : (n : ℕ) (bs cs : List ℕ) → ∥ Sound n bs ∥₁ → ∥ Sound n cs ∥₁ → ((t : Tree) → Over (letters n) t → accepted (automaton bs) t ≡ accepted (automaton cs) t) ↔ (bs ≡ cs)
stored_same_bytes n bs cs b c =
    let set = is_set ℕ_set bs cs in (
      λ h. ∥∥₁_elim b set (λ x. ∥∥₁_elim c set (λ y. (same_bytes n bs cs x y).0 h)),
      λ e t o. ap (λ xs. accepted (automaton xs) t) e,
    )

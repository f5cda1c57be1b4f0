use Rattle.std.proofs.Common.{◌≡◌, ℕ, Bool, false, ◌&&◌, ap, arith}
use Rattle.std.proofs.lemmas.Grind.{common_steps}
use Rattle.labels.specs.Adding.{Added, Book}
use Rattle.pair_tests.proofs.books.crossed.Goals as goal

-- what the guards 1 and 2 hold of, once the guards 0, 1 and 2 were given a value each
one_holds : {V : Type 0} (b c d e : Book V) (u v w : V) (x : ℕ) → Added b 0 u c → Added c 1 v d → Added d 2 w e → b.meaning.holds 1 x ≡ false → e.meaning.holds 1 x ≡ (b.meaning.label x && b.labels v x)
one_holds {V = V} b c d e u v w x first second third none =
    grind (arith, common_steps, first.meaning.holds 1 x, second.meaning.holds 1 x, third.meaning.holds 1 x, first.meaning.label x, ap (λ (f : V → ℕ → Bool). f v x) first.labels)

two_holds : {V : Type 0} (b c d e : Book V) (u v w : V) (x : ℕ) → Added b 0 u c → Added c 1 v d → Added d 2 w e → b.meaning.holds 2 x ≡ false → e.meaning.holds 2 x ≡ (b.meaning.label x && b.labels w x)
two_holds {V = V} b c d e u v w x first second third none =
    grind (arith, common_steps, first.meaning.holds 2 x, second.meaning.holds 2 x, third.meaning.holds 2 x, first.meaning.label x, second.meaning.label x, ap (λ (f : V → ℕ → Bool). f w x) first.labels, ap (λ (f : V → ℕ → Bool). f w x) second.labels)

pub returns-clause-one : goal.returns-clause-one
returns-clause-one g c = λ x.
    let fresh = c.new-pair.ensures in
    simp (c.value-2.ensures, fresh.parts.0, fresh.parts.1) at (one_holds _ _ _ _ _ _ _ x c.in_ok-add.ensures.3 c.in_ok-add-2.ensures.3 c.in_ok-add-3.ensures.3 (rw (fresh.parts.0, fresh.parts.1) (fresh.meaning.holds 1 x)))

pub returns-clause-two : goal.returns-clause-two
returns-clause-two g c = λ x.
    let fresh = c.new-pair.ensures in
    simp (c.value-3.ensures, fresh.parts.0, fresh.parts.1) at (two_holds _ _ _ _ _ _ _ x c.in_ok-add.ensures.3 c.in_ok-add-2.ensures.3 c.in_ok-add-3.ensures.3 (rw (fresh.parts.0, fresh.parts.1) (fresh.meaning.holds 2 x)))

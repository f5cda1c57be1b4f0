-- The order in which combinations are tried.
use Rattle.std.proofs.Common.{◌≡◌, ℕ, zero, suc, ◌+◌, ◌<◌, ◌≤◌, max, List, [], ◌∷◌, length, get_or, sym, refl, ap, ◌∙◌, ap₂, inl, inr, ⊎_elim, arith}
use Rattle.trees.specs.Rounds.{Combination, nullary, unary, binary, Below, round_of, key, Less, Before}

pub less_trans : (xs ys zs : List ℕ) → Less xs ys → Less ys zs → Less xs zs
less_trans [] ys zs h l = absurd h
less_trans (x ∷ xs) [] zs h l = absurd h
less_trans (x ∷ xs) (y ∷ ys) [] h l = absurd l
less_trans (x ∷ xs) (y ∷ ys) (z ∷ zs) h l =
    ⊎_elim
    (λ a. inl (⊎_elim (λ b. omega arith) (λ b. omega (arith, b.0)) l))
    (λ a. ⊎_elim (λ b. inl (omega (arith, a.0))) (λ b. inr (a.0 ∙ b.0, less_trans xs ys zs a.1 b.1)) l)
    h

pub less_irreflexive : (xs : List ℕ) → Less xs xs → ⊥
less_irreflexive [] h = h
less_irreflexive (x ∷ xs) h = ⊎_elim (λ lt. omega arith) (λ same. less_irreflexive xs same.1) h

-- lists of one length, neither of which is less, are the same
pub less_neither : (xs ys : List ℕ) → length xs ≡ length ys → (Less xs ys → ⊥) → (Less ys xs → ⊥) → xs ≡ ys
less_neither [] [] e n m = refl
less_neither [] (y ∷ ys) e n m = absurd (omega arith)
less_neither (x ∷ xs) [] e n m = absurd (omega arith)
less_neither (x ∷ xs) (y ∷ ys) e n m =
    let p : x < y → ⊥ = λ h. n (inl h) in
    let q : y < x → ⊥ = λ h. m (inl h) in
    let same : x ≡ y = omega arith in
    ap₂ ◌∷◌ same (less_neither xs ys (omega arith) (λ h. n (inr (same, h))) (λ h. m (inr (sym same, h))))

-- a key is the round and what does not depend on rounds
rest : Combination → List ℕ
rest (nullary a) = 0 ∷ 0 ∷ 0 ∷ a ∷ []
rest (unary p a) = 1 ∷ p ∷ 0 ∷ a ∷ []
rest (binary p q a) = 2 ∷ p ∷ q ∷ a ∷ []

key_parts : (r : ℕ → ℕ) (c : Combination) → key r c ≡ round_of r c ∷ rest c
unfolding rest
key_parts r (nullary a) = refl
key_parts r (unary p a) = refl
key_parts r (binary p q a) = refl

-- the combination of a key
abbrev from : ℕ → ℕ → ℕ → ℕ → Combination
from zero p q a = nullary a
from (suc zero) p q a = unary p a
from (suc (suc n)) p q a = binary p q a

abbrev of_key : List ℕ → Combination
of_key xs = from (get_or xs 1 0) (get_or xs 2 0) (get_or xs 3 0) (get_or xs 4 0)

of_key_key : (r : ℕ → ℕ) (c : Combination) → of_key (key r c) ≡ c
of_key_key r (nullary a) = refl
of_key_key r (unary p a) = refl
of_key_key r (binary p q a) = refl

pub key_length : (r : ℕ → ℕ) (c : Combination) → length (key r c) ≡ 5
key_length r (nullary a) = refl
key_length r (unary p a) = refl
key_length r (binary p q a) = refl

-- combinations with one key are the same,
pub one_key : (r : ℕ → ℕ) (c d : Combination) → key r c ≡ key r d → c ≡ d
one_key r c d e = sym (of_key_key r c) ∙ ap of_key e ∙ of_key_key r d

-- and so are those neither of which is tried before the other
pub before_neither : (r : ℕ → ℕ) (c d : Combination) → (Before r c d → ⊥) → (Before r d c → ⊥) → c ≡ d
before_neither r c d n m =
    one_key r c d (less_neither (key r c) (key r d) (key_length r c ∙ sym (key_length r d)) n m)

pub before_trans : (r : ℕ → ℕ) (c d e : Combination) → Before r c d → Before r d e → Before r c e
before_trans r c d e = less_trans (key r c) (key r d) (key r e)

-- what is tried in an earlier round is tried before
pub sooner_before : (r : ℕ → ℕ) (c d : Combination) → round_of r c < round_of r d → Before r c d
sooner_before r c d h = rw (key_parts r c, key_parts r d) (inl h)

pub before_round : (r : ℕ → ℕ) (c d : Combination) → Before r c d → round_of r c ≤ round_of r d
before_round r c d h =
    let l : Less (round_of r c ∷ rest c) (round_of r d ∷ rest d) = rw (key_parts r c, key_parts r d) at h in
    ⊎_elim (λ lt. omega arith) (λ e. omega (arith, e.0)) l

-- ---- the order goes by the rounds of the combinations' own states

module _ (n : ℕ) (r s : ℕ → ℕ) (agree : (p : ℕ) → p < n → r p ≡ s p) where
  pub same_round : (c : Combination) → Below n c → round_of r c ≡ round_of s c
  same_round (nullary a) b = refl
  same_round (unary p a) b = ap (λ x. x + 1) (agree p b)
  same_round (binary p q a) b = ap₂ (λ x y. max x y + 1) (agree p b.0) (agree q b.1)

  pub same_key : (c : Combination) → Below n c → key r c ≡ key s c
  same_key c b = key_parts r c ∙ ap (λ x. x ∷ rest c) (same_round c b) ∙ sym (key_parts s c)

  pub same_before : (c d : Combination) → Below n c → Below n d → Before r c d → Before s c d
  same_before c d b e h = rw (← same_key c b, ← same_key d e) h

-- The sets of states, worked out bottom-up, and the states by the rules are the same.
use Rattle.std.proofs.Common.{◌≡◌, ℕ, zero, suc, ◌<◌, Bool, true, ◌&&◌, eqb, ◌⊎◌, List, [], ◌∷◌, length, get_or, refl, inl, inr, ⊎_elim, arith}
use Rattle.std.specs.List.{ContainsAt as Has}
use Rattle.std.proofs.lemmas.Bool.{false≢true, and_parts, and_from, or_cases, or_left, or_right, eqb-true, eq-eqb}
use Rattle.std.proofs.ByRecursion.{has_append_right}
use Rattle.trees.specs.Trees.{Tree, leaf, one, two}
use Rattle.trees.specs.Rules.{Rule, CanHave, given, states}
use Rattle.trees.specs.Theorems.{SetsByRules}

has_cases : (r : Rule) (rs : List Rule) (x : Rule) → Has (r ∷ rs) x → (r ≡ x) ⊎ Has rs x
has_cases r rs x h = go h.0 h.1 h.2
  where
    go : (k : ℕ) → k < length (r ∷ rs) → ((d : Rule) → get_or (r ∷ rs) k d ≡ x) → (r ≡ x) ⊎ Has rs x
    go zero l e = inl (e r)
    go (suc k) l e = inr (k, omega arith, e)

module _ (test : Rule → Bool) (s : ℕ) where
  -- the rule passes the test and gives s
  abbrev Fits : Rule → Type 0
  Fits r = (test r ≡ true) × (r.state ≡ s)

  some_rule : (rs : List Rule) → given test rs s ≡ true → (r : Rule) × Has rs r × Fits r
  some_rule [] e = absurd (false≢true e)
  some_rule (r ∷ rs) e =
      ⊎_elim
      (λ h. let p = and_parts (test r) (eqb r.state s) h in (r, (0, omega arith, λ d. refl), (p.0, eqb-true r.state s p.1)))
      (λ h. let x = some_rule rs h in (x.0, has_append_right (r ∷ []) rs x.0 x.1, x.2))
      (or_cases (test r && eqb r.state s) (given test rs s) e)

  by_rule : (rs : List Rule) (x : Rule) → Has rs x → Fits x → given test rs s ≡ true
  by_rule [] x h f = absurd (let l = h.1 in omega arith)
  by_rule (r ∷ rs) x h f =
      ⊎_elim
      (λ e. or_left (test r && eqb r.state s) (given test rs s) (rw e (and_from (test x) (eqb x.state s) f.0 (eq-eqb x.state s f.1))))
      (λ k. or_right (test r && eqb r.state s) (given test rs s) (by_rule rs x k f))
      (has_cases r rs x h)

can_have : (rs : List Rule) (t : Tree) (s : ℕ) → states rs t s ≡ true → CanHave rs t s
can_have rs (leaf a) s e =
    let x = some_rule (λ r. eqb r.children 0 && r.admits a) s rs e in
    let r = x.0 in
    let p = and_parts (eqb r.children 0) (r.admits a) x.2.0 in
    (r, x.1, eqb-true r.children 0 p.0, p.1, x.2.1)
can_have rs (one a t) s e =
    let x = some_rule (λ r. eqb r.children 1 && (r.admits a && states rs t r.left)) s rs e in
    let r = x.0 in
    let p = and_parts (eqb r.children 1) (r.admits a && states rs t r.left) x.2.0 in
    let q = and_parts (r.admits a) (states rs t r.left) p.1 in
    (r, x.1, eqb-true r.children 1 p.0, q.0, x.2.1, can_have rs t r.left q.1)
can_have rs (two a t u) s e =
    let x = some_rule (λ r. eqb r.children 2 && (r.admits a && (states rs t r.left && states rs u r.right))) s rs e in
    let r = x.0 in
    let p = and_parts (eqb r.children 2) (r.admits a && (states rs t r.left && states rs u r.right)) x.2.0 in
    let q = and_parts (r.admits a) (states rs t r.left && states rs u r.right) p.1 in
    let o = and_parts (states rs t r.left) (states rs u r.right) q.1 in
    (r, x.1, eqb-true r.children 2 p.0, q.0, x.2.1, can_have rs t r.left o.0, can_have rs u r.right o.1)

in_set : (rs : List Rule) (t : Tree) (s : ℕ) → CanHave rs t s → states rs t s ≡ true
in_set rs (leaf a) s (r, h, k, m, e) =
    by_rule (λ r. eqb r.children 0 && r.admits a) s rs r h (rw (k, m), e)
in_set rs (one a t) s (r, h, k, m, e, l) =
    by_rule (λ r. eqb r.children 1 && (r.admits a && states rs t r.left)) s rs r h (rw (k, m, in_set rs t r.left l), e)
in_set rs (two a t u) s (r, h, k, m, e, l, g) =
    by_rule (λ r. eqb r.children 2 && (r.admits a && (states rs t r.left && states rs u r.right))) s rs r h (rw (k, m, in_set rs t r.left l, in_set rs u r.right g), e)

pub sets_by_rules : SetsByRules
sets_by_rules rs t s = (can_have rs t s, in_set rs t s)

-- Lists of numbers with commas, and lines of atoms.
use Rattle.std.proofs.Common.{◌≡◌, ℕ, zero, suc, ◌+◌, ◌^◌, ◌<◌, ◌≤◌, Bool, true, false, cond, List, [], ◌∷◌, ◌++◌, length, take, codes, decimal, All, sym, refl, ap, ◌∙◌, subst, append_assoc, append-nil, add-one, arith, length-append}
use Rattle.std.proofs.lemmas.Fmt.{decimal_nonempty}
use Rattle.std.proofs.lemmas.List.{get_or-take}
use Rattle.std.proofs.lemmas.List.Elements.{All-nil, All-cons, All-head, All-append}
use Rattle.std.proofs.Common.{map, filter, map-id, Option}
use Rattle.std.specs.List.{range_with_len}
use Rattle.std.proofs.lemmas.List.FromFn.{filter_of_map_range_with_len_more}
use Rattle.std.proofs.lemmas.Iterator.{YieldsList, items_from_drains}
use Rattle.std.proofs.lemmas.Iterator.Consumers.{YieldsList-at}
use Rattle.std.specs.Iterator.Runs.{Run, YieldsRun}
use Rattle.itertools.specs.Consumer.{joined}
use Rattle.labels.specs.Sets.{has}
use Rattle.atoms.specs.Entries.{blank, atom_at}
use Rattle.atoms.specs.declared.atom.Atom.{Atom}
use Rattle.blocks.specs.Printing.{members, commas, list_text, atom_line, atom_lines, table_text}

-- numbers of at most 64 bits, of which it is known that each has a digit
abbrev pub Small : List ℕ → Type 0
Small gs = All (λ g. g < 2 ^ 64) gs

commas_some : (g : ℕ) (gs : List ℕ) → Small (g ∷ gs) → 0 < length (commas (g ∷ gs))
commas_some g [] small = decimal_nonempty g (All-head (λ g. g < 2 ^ 64) g [] small)
commas_some g (h ∷ gs) small = omega (arith, length-append (decimal g) (44 ∷ commas (h ∷ gs)))

commas_joined : (gs : List ℕ) → joined decimal (44 ∷ []) gs ≡ commas gs
commas_joined [] = refl
commas_joined (g ∷ []) = append-nil (decimal g)
commas_joined (g ∷ h ∷ gs) = ap (λ l. decimal g ++ 44 ∷ l) (commas_joined (h ∷ gs))

-- the numbers below n that are in the set s
members_kept : (n s : ℕ) → filter (has s) (range_with_len 0 n) ≡ members n s
members_kept zero s = refl
members_kept (suc n) s =
    ap (filter (has s)) (sym (map-id (range_with_len 0 (suc n))) ∙ ap (λ k. map (λ x. x) (range_with_len 0 k)) (sym (add-one n)))
    ∙ filter_of_map_range_with_len_more (has s) (λ x. x) 0 n n (omega arith)
    ∙ ap (λ l. l ++ cond (has s n) (n ∷ []) []) (ap (filter (has s)) (map-id (range_with_len 0 n)) ∙ members_kept n s)

-- a whole run has all that its iterator gives
run_items : {S A : Type 0} {steps : S → Option A → S → Type 0} {s : S} {all : List A} (p : Run steps) → p.from ≡ s → p.whole ≡ true → YieldsList steps (λ x. x) s all → p.items ≡ all
unfolding YieldsRun
run_items p at whole road =
    let d = p.gave.0 in
    sym (map-id p.items) ∙ items_from_drains p.items (d.0, d.1, λ _. d.2 whole) (YieldsList-at at road)

pub run_joined : {S : Type 0} {steps : S → Option ℕ → S → Type 0} {it : S} (n s : ℕ) (p : Run steps) → p.from ≡ it → p.whole ≡ true → YieldsList steps (λ x. x) it (filter (has s) (range_with_len 0 n)) → joined decimal (44 ∷ []) p.items ≡ commas (members n s)
run_joined n s p at whole road = ap (joined decimal (44 ∷ [])) (run_items p at whole road ∙ members_kept n s) ∙ commas_joined (members n s)

member_small : (n : ℕ) (b : Bool) → n < 2 ^ 64 → Small (cond b (n ∷ []) [])
member_small n true within = All-cons (λ g. g < 2 ^ 64) n [] within (All-nil (λ g. g < 2 ^ 64))
member_small n false within = All-nil (λ g. g < 2 ^ 64)

members_small : (n s : ℕ) → n ≤ 2 ^ 64 → Small (members n s)
members_small zero s within = All-nil (λ g. g < 2 ^ 64)
members_small (suc n) s within = All-append (λ g. g < 2 ^ 64) (members n s) (cond (has s n) (n ∷ []) []) (members_small n s (omega arith)) (member_small n (has s n) (omega arith))

dashed : (gs : List ℕ) → Small gs → (length (commas gs) ≡ 0 → commas gs ++ 45 ∷ [] ≡ list_text gs) × (0 < length (commas gs) → commas gs ≡ list_text gs)
dashed [] small = (λ none. refl, λ some. absurd (omega arith))
dashed (g ∷ gs) small = (λ none. absurd (omega (arith, none, commas_some g gs small)), λ some. refl)

module _ (n s : ℕ) (out : List ℕ) (within : n ≤ 2 ^ 64) (text : out ≡ commas (members n s)) where
  -- nothing is listed
  pub dash_added : length out ≡ 0 → out ++ 45 ∷ [] ≡ list_text (members n s)
  dash_added none = ap (λ l. l ++ 45 ∷ []) text ∙ (dashed (members n s) (members_small n s within)).0 (sym (ap length text) ∙ none)

  pub all_listed : 0 < length out → out ≡ list_text (members n s)
  all_listed some = text ∙ (dashed (members n s) (members_small n s within)).1 (subst (λ l. 0 < length l) text some)

-- the line of atom k
abbrev line : ℕ → ℕ → Atom → List ℕ
line k n a = decimal k ++ (32 ∷ (decimal a.label ++ (32 ∷ (list_text (members n a.guards.0) ++ (10 ∷ [])))))

-- one atom more, of the first c of xs
pub one_atom_more : (xs ys : List Atom) (c n m k : ℕ) (before since : List ℕ) → ys ≡ take c xs → k < c → m ≡ n → before ≡ table_text xs n k → since ≡ before ++ line k m (atom_at ys k) → since ≡ table_text xs n (k + 1)
one_atom_more xs ys c n m k before since cut within same text put =
    put
    ∙ ap (λ l. l ++ line k m (atom_at ys k)) text
    ∙ ap (λ a. table_text xs n k ++ line k m a) (ap (λ l. atom_at l k) cut ∙ get_or-take c xs k blank within)
    ∙ ap (λ j. table_text xs n k ++ line k j (atom_at xs k)) same
    ∙ append_assoc (codes "atom label yes\n") (atom_lines xs n k) (atom_line xs n k) ∙ ap (table_text xs n) (sym (add-one k))

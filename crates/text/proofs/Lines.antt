-- How a text is cut into lines. Assumes nothing.
use Rattle.std.proofs.Common.{◌≡◌, ℕ, ◌+◌, ◌≤◌, List, [], ◌∷◌, ◌++◌, map, length, Some, None, Option, sym, ap, ◌∙◌, subst, subst₂, append-nil, arith}
use Rattle.std.proofs.lemmas.List.{nil_from_length}
use Rattle.text.specs.declared.token.Token.{Token}
use Rattle.text.specs.Tokens.{Sign, block_end, sign_of, Bad, LineAdded, Scanned, end, blank, bad}

-- an empty line adds its block end
pub blank_line : (n : ℕ) (text next : List ℕ) → text ≡ 10 ∷ next → (before : List Token) (t : Token) → sign_of t ≡ block_end n → (since : List Token) → since ≡ before ++ t ∷ [] → LineAdded n text before since next
blank_line n text next e before t is since pushed = record {
  more = t ∷ [];
  added = pushed;
  shorter = omega (arith, ap length e);
  goes_on = λ ss b s. subst₂ (λ (l : List ℕ) (g : Sign). Scanned n l (g ∷ ss) b) (sym e) (sym is) (blank s);
}

-- the lines before line n give the tokens, and the rest is to be scanned
pub record Sofar (text rest : List ℕ) (n : ℕ) (tokens : List Token) : Type 0 where
  pub goes_on : (ss : List Sign) (b : Option ℕ) → Scanned n rest ss b → Scanned 1 text (map sign_of tokens ++ ss) b
  pub small : n + length rest ≤ 1 + length text

pub all_lines : (text rest : List ℕ) (n : ℕ) (tokens : List Token) → Sofar text rest n tokens → length rest ≡ 0 → Scanned 1 text (map sign_of tokens) None
all_lines text rest n tokens h none =
    subst (λ (gs : List Sign). Scanned 1 text gs None) (append-nil (map sign_of tokens)) (h.goes_on [] None (subst (λ (l : List ℕ). Scanned n l [] None) (sym (nil_from_length rest none)) end))

pub bad_line : (text rest : List ℕ) (n : ℕ) (before since : List Token) → Sofar text rest n before → Bad rest → since ≡ before → Scanned 1 text (map sign_of since) (Some n)
bad_line text rest n before since h is same =
    subst (λ (gs : List Sign). Scanned 1 text gs (Some n)) (append-nil (map sign_of before) ∙ ap (map sign_of) (sym same)) (h.goes_on [] (Some n) (bad is))

-- How a line is cut into words. Assumes nothing.
use Rattle.std.proofs.Common.{◌≡◌, ℕ, ◌<◌, ◌≤◌, ◌⊎◌, List, [], ◌∷◌, ◌++◌, map, length, get_or, take, drop, sym, refl, ap, ◌∙◌, subst, subst₂, inl, inr, append_assoc, append-nil, add-zero, arith, length-append}
use Rattle.std.specs.List.{All, between}
use Rattle.std.proofs.lemmas.List.Elements.{All-head, All-tail, All-nil, All-push}
use Rattle.std.proofs.lemmas.List.{map_push, get_or-drop, length-drop, take-append-drop}
use Rattle.std.proofs.lemmas.Slice.{first_rest}
use Rattle.text.specs.declared.token.Token.{Token}
use Rattle.text.specs.Tokens.{Sign, word, line_end, sign_of, Visible, GoodWord, Words, spaced, NoWords, LineAdded, Scanned, words}

-- what follows a word: its first byte, if any, is not one of the word
abbrev pub Stops : List ℕ → Type 0
Stops text = 0 < length text → Visible (get_or text 0 0) → ⊥

-- a text begins with one longest run of a word's bytes
same_run : (xs ys us vs : List ℕ) → All Visible xs → All Visible ys → Stops us → Stops vs → xs ++ us ≡ ys ++ vs → (xs ≡ ys) × (us ≡ vs)
same_run [] [] us vs hx hy hu hv e = (refl, e)
same_run [] (y ∷ ys) us vs hx hy hu hv e = absurd (subst Stops e hu (omega arith) (All-head Visible y ys hy))
same_run (x ∷ xs) [] us vs hx hy hu hv e = absurd (subst Stops (sym e) hv (omega arith) (All-head Visible x xs hx))
same_run (x ∷ xs) (y ∷ ys) us vs hx hy hu hv e =
    let first : x ≡ y = cc in
    let more : xs ++ us ≡ ys ++ vs = cc in
    let p = same_run xs ys us vs (All-tail Visible x xs hx) (All-tail Visible y ys hy) hu hv more in
    let both = p.0 in
    (cc, p.1)

-- the first word of a line of words, and what follows it
peel : (xs ys : List ℕ) (ws : List (List ℕ)) (rest : List ℕ) → All Visible xs → Stops ys → Words ws → xs ++ ys ≡ spaced ws ++ 10 ∷ rest
    → (0 < length xs) × ((ys ≡ 10 ∷ rest) ⊎ ((vs : List (List ℕ)) × (Words vs × (ys ≡ 32 ∷ (spaced vs ++ 10 ∷ rest)))))
peel xs ys [] rest hx hy h e = absurd (omega arith)
peel xs ys (w ∷ []) rest hx hy h e =
    let good = All-head GoodWord w [] h.1 in
    let p = same_run xs w ys (10 ∷ rest) hx good.1 hy (λ _ v. omega arith) e in
    (omega (arith, ap length p.0, good.0), inl p.1)
peel xs ys (w ∷ v ∷ ws) rest hx hy h e =
    let good = All-head GoodWord w (v ∷ ws) h.1 in
    let p = same_run xs w ys (32 ∷ (spaced (v ∷ ws) ++ 10 ∷ rest)) hx good.1 hy (λ _ v. omega arith) (e ∙ append_assoc w (32 ∷ spaced (v ∷ ws)) (10 ∷ rest)) in
    (omega (arith, ap length p.0, good.0), inr (v ∷ ws, ((omega arith, All-tail GoodWord w (v ∷ ws) h.1), p.1)))

-- each word is followed by a space, and the last space by the rest
abbrev pub led : List (List ℕ) → List ℕ → List ℕ
led [] rest = rest
led (w ∷ ws) rest = w ++ 32 ∷ led ws rest

led_push : (ws : List (List ℕ)) (w rest : List ℕ) → led (ws ++ w ∷ []) rest ≡ led ws (w ++ 32 ∷ rest)
led_push [] w rest = refl
led_push (v ∷ ws) w rest = ap (λ (l : List ℕ). v ++ 32 ∷ l) (led_push ws w rest)

led_append : (ws : List (List ℕ)) (xs ys : List ℕ) → led ws (xs ++ ys) ≡ led ws xs ++ ys
led_append [] xs ys = refl
led_append (w ∷ ws) xs ys = ap (λ (l : List ℕ). w ++ 32 ∷ l) (led_append ws xs ys) ∙ sym (append_assoc w (32 ∷ led ws xs) ys)

spaced_push : (ws : List (List ℕ)) (w : List ℕ) → spaced (ws ++ w ∷ []) ≡ led ws w
spaced_push [] w = refl
spaced_push (v ∷ []) w = refl
spaced_push (v ∷ u ∷ ws) w = ap (λ (l : List ℕ). v ++ 32 ∷ l) (spaced_push (u ∷ ws) w)

-- where the rest of a line is not one of words, the line is not
no_words_led : (ws : List (List ℕ)) (rest : List ℕ) → All GoodWord ws → NoWords rest → NoWords (led ws rest)
no_words_led [] rest h no-rest vs after good e = no-rest vs after good e
no_words_led (w ∷ ws) rest h no-rest vs after good e =
    let inner = no_words_led ws rest (All-tail GoodWord w ws h) no-rest in
    elim (peel w (32 ∷ led ws rest) vs after (All-head GoodWord w ws h).1 (λ _ v. omega arith) good e).1 [
      | inl is ↦ let same : ◌≡◌ {A = ℕ} 32 10 = cc in absurd (omega arith)
      | inr is ↦ let same : led ws rest ≡ spaced is.0 ++ 10 ∷ after = cc is.1.1 in inner is.0 after is.1.0 same
    ]

-- a line of words goes on after its first word with a space or a line feed
pub no_words_stuck : (xs ys : List ℕ) → All Visible xs → Stops ys → (0 < length xs → (get_or ys 0 0 ≡ 10 → ⊥) × (get_or ys 0 0 ≡ 32 → ⊥)) → NoWords (xs ++ ys)
no_words_stuck xs ys hx hy other ws rest good e =
    let p = peel xs ys ws rest hx hy good e in
    let q = other p.0 in
    elim p.1 [
      | inl is ↦ q.0 (ap (λ (l : List ℕ). get_or l 0 0) is)
      | inr is ↦ q.1 (ap (λ (l : List ℕ). get_or l 0 0) is.1.1)
    ]

-- the rest begins with the longest run of a word's bytes
pub record Front (rest w after : List ℕ) : Type 0 where
  pub split : rest ≡ w ++ after
  pub visible : All Visible w
  pub stops : Stops after

pub front_at : (rest w after : List ℕ) (k : ℕ) → k ≤ length rest → All Visible (take k rest) → (k < length rest → Visible (get_or rest k 0) → ⊥) → w ≡ take k rest → after ≡ drop k rest → Front rest w after
front_at rest w after k within visible stops front back = record {
  split = sym (take-append-drop k rest) ∙ (λ i. sym front i ++ sym back i);
  visible = subst (All Visible) (sym front) visible;
  stops = λ some is. stops (omega (arith, ap length back, length-drop k rest)) (subst Visible (ap (λ (l : List ℕ). get_or l 0 0) back ∙ get_or-drop k rest 0 0 ∙ ap (λ (i : ℕ). get_or rest i 0) (add-zero k)) is);
}

-- a text that begins with the byte b
pub first_is : (after : List ℕ) (b : ℕ) → 0 < length after → get_or after 0 0 ≡ b → after ≡ b ∷ between 1 (length after) after
first_is after b some is = first_rest after 0 some ∙ ap (λ (x : ℕ). x ∷ between 1 (length after) after) is

-- good words of line n are cut off the text, and their tokens are added
pub record Pushing (n : ℕ) (text rest : List ℕ) (before since : List Token) : Type 0 where
  pub ws : List (List ℕ)
  pub more : List Token
  pub good : All GoodWord ws
  pub cut : text ≡ led ws rest
  pub added : since ≡ before ++ more
  pub gives : map sign_of more ≡ map (λ w. word w n) ws

pub pushing_none : (n : ℕ) (text : List ℕ) (before : List Token) → Pushing n text text before before
pushing_none n text before = record { ws = []; more = []; good = All-nil GoodWord; cut = refl; added = sym (append-nil before); gives = refl }

module _ (n : ℕ) (text rest : List ℕ) (before since : List Token) (h : Pushing n text rest before since) (w after : List ℕ) (f : Front rest w after) where
  -- where no word stands, or neither a space nor a line feed follows it, the line is not one of words
  pub stuck : (0 < length w → (get_or after 0 0 ≡ 10 → ⊥) × (get_or after 0 0 ≡ 32 → ⊥)) → NoWords text
  stuck other = subst NoWords (sym h.cut) (no_words_led h.ws rest h.good (subst NoWords (sym f.split) (no_words_stuck w after f.visible f.stops other)))

  pub one_added : (t : Token) (then : List Token) → then ≡ since ++ t ∷ [] → then ≡ before ++ (h.more ++ t ∷ [])
  one_added t then pushed = pushed ∙ ap (λ (l : List Token). l ++ t ∷ []) h.added ∙ append_assoc before h.more (t ∷ [])

  module _ (some : 0 < length w) (next : List ℕ) (t : Token) (is : sign_of t ≡ word w n) (then : List Token) (pushed : then ≡ since ++ t ∷ []) where
    one_given : map sign_of (h.more ++ t ∷ []) ≡ map (λ w. word w n) (h.ws ++ w ∷ [])
    one_given = map_push sign_of h.more t ∙ (λ i. h.gives i ++ is i ∷ []) ∙ sym (map_push (λ w. word w n) h.ws w)

    one_good : All GoodWord (h.ws ++ w ∷ [])
    one_good = All-push GoodWord h.ws w h.good (some, f.visible)

    -- a word and a space are cut off
    pub one_more : after ≡ 32 ∷ next → Pushing n text next before then
    one_more e = record {
      ws = h.ws ++ w ∷ [];
      more = h.more ++ t ∷ [];
      good = one_good;
      cut = h.cut ∙ ap (led h.ws) (f.split ∙ ap (λ (l : List ℕ). w ++ l) e) ∙ sym (led_push h.ws w next);
      added = one_added t then pushed;
      gives = one_given;
    }

    whole_line : after ≡ 10 ∷ next → text ≡ spaced (h.ws ++ w ∷ []) ++ 10 ∷ next
    whole_line e = h.cut ∙ ap (led h.ws) (f.split ∙ ap (λ (l : List ℕ). w ++ l) e) ∙ led_append h.ws w (10 ∷ next) ∙ ap (λ (l : List ℕ). l ++ 10 ∷ next) (sym (spaced_push h.ws w))

    -- the last word and the line feed are cut off
    pub last_word : after ≡ 10 ∷ next → (u : Token) → sign_of u ≡ line_end n → (all : List Token) → all ≡ then ++ u ∷ [] → LineAdded n text before all next
    last_word e u ends all pushed-too = record {
      more = (h.more ++ t ∷ []) ++ u ∷ [];
      added = pushed-too ∙ ap (λ (l : List Token). l ++ u ∷ []) (one_added t then pushed) ∙ append_assoc before (h.more ++ t ∷ []) (u ∷ []);
      shorter = omega (arith, ap length (whole_line e), length-append (spaced (h.ws ++ w ∷ [])) (10 ∷ next));
      goes_on = λ ss b s.
          let signs : map sign_of ((h.more ++ t ∷ []) ++ u ∷ []) ++ ss ≡ map (λ w. word w n) (h.ws ++ w ∷ []) ++ line_end n ∷ ss
          = ap (λ (l : List Sign). l ++ ss) (map_push sign_of (h.more ++ t ∷ []) u ∙ (λ i. one_given i ++ ends i ∷ [])) ∙ append_assoc (map (λ w. word w n) (h.ws ++ w ∷ [])) (line_end n ∷ []) ss in
          subst₂ (λ (l : List ℕ) (gs : List Sign). Scanned n l gs b) (sym (whole_line e)) (sym signs) (words (h.ws ++ w ∷ []) (simp length-append (omega arith), one_good) s);
    }

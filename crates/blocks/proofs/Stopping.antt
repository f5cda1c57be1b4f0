-- Where a reading stops at a `?`.
use Rattle.std.proofs.Common.{◌≡◌, None, Ok, Err, Option, Result, sym, ap, ◌∙◌, subst, MatchResult}
use Rattle.std.specs.Option.{ok_or}
use Rattle.std.specs.Result.{IsErrAnd}
use Rattle.blocks.specs.declared.refusal.Refusal.{Refusal}

-- where nothing is there, `o.ok_or(x)?` stops with x, as the result's own kind of error
pub stopped : {A B S : Type 0} (to : Refusal → S) (P : A → Type 0) (Q : S → Type 0) (r : Result A S) (o : Option B) (x y : Refusal) → o ≡ None → ◌≡◌ {A = Result B Refusal} (Err y) (ok_or o x) → IsErrAnd r (λ s. s ≡ to y) → Q (to x) → MatchResult r P Q
stopped to P Q (Ok a) o x y none e stop q = absurd stop
stopped {B = B} to P Q (Err s) o x y none e stop q =
    let given : ◌≡◌ {A = Result B Refusal} (Err y) (Err x) = e ∙ ap (λ o. ok_or o x) none in
    let same : y ≡ x = cc in
    subst Q (sym (stop ∙ ap to same)) q

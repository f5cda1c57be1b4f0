-- The first of a list of tokens, and its sign.
use Rattle.std.proofs.Common.{◌≡◌, ◌<◌, List, [], ◌∷◌, map, length, get_or, drop, refl, arith}
use Rattle.text.specs.Tokens.{sign_of}
use Rattle.text.specs.declared.token.Token.{Token}

pub first_sign : (ts : List Token) (t : Token) → 0 < length ts → map sign_of ts ≡ sign_of (get_or ts 0 t) ∷ map sign_of (drop 1 ts)
first_sign [] t h = absurd (omega arith)
first_sign (u ∷ ts) t h = refl

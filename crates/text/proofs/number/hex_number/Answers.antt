use Rattle.std.proofs.Common.{◌≤◌, length, arith, lit<}
use native.Mathlib.Nat.{pow-le-pow_right}
use Rattle.text.proofs.number.hex_number.Goals as goal

pub digits_after-requires-clause-room : goal.digits_after-requires-clause-room
digits_after-requires-clause-room c =
    let few : length c.args.word.now ≤ 6 = omega arith in
    omega (arith, pow-le-pow_right {n = 16} (lit< tt) few)

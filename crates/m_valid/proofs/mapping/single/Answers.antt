use Rattle.std.proofs.Common.{◌<◌, ◌≤◌, ◌^◌, arith}
use Rattle.std.proofs.lemmas.Nat.{one_shl}
use Rattle.std.proofs.Math.Nat.{pow-le-pow_right}
use Rattle.m_valid.proofs.mapping.single.Goals as goal

pub returns-then-bit-clause-small : goal.returns-then-bit-clause-small
returns-then-bit-clause-small c =
    let two : 0 < 2 = omega arith in
    let least : c.args.i ≤ 3 = omega arith in
    let most : 2 ^ c.args.i ≤ 2 ^ 3 = pow-le-pow_right two least in
    omega (arith, most, one_shl c.args.i 64 (omega arith))

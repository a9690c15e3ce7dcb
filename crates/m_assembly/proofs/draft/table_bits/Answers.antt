use Rattle.std.proofs.Common.{◌<◌, ◌≤◌, ◌^◌, arith}
use Rattle.std.proofs.lemmas.Nat.{one_shl}
use Rattle.std.proofs.Math.Nat.{pow-le-pow_right}
use Rattle.m_assembly.proofs.draft.table_bits.Goals as goal

pub returns-clause-few : goal.returns-clause-few
returns-clause-few c =
    let two : 0 < 2 = omega arith in
    let least : c.args.leaves ≤ 5 = omega arith in
    let most : 2 ^ c.args.leaves ≤ 2 ^ 5 = pow-le-pow_right two least in
    omega (arith, most, one_shl c.args.leaves 32 (omega arith))

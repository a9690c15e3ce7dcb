use Rattle.std.proofs.Common.{◌<◌, ◌≤◌, ◌^◌, sym, arith}
use Rattle.std.proofs.Math.Nat.{pow-le-pow_right, mod-eq_of_lt}
use Rattle.m_assembly.proofs.draft.cut_table.Goals as goal

pub returns-else-leaves-lt6 : goal.returns-else-leaves-lt6
returns-else-leaves-lt6 c =
    let two : 0 < 2 = omega arith in
    let six : 6 ≤ c.args.leaves = omega arith in
    let bits : 2 ^ 6 ≤ 2 ^ c.args.leaves = pow-le-pow_right two six in
    let all : 2 ^ (2 ^ 6) ≤ 2 ^ (2 ^ c.args.leaves) = pow-le-pow_right two bits in
    sym (mod-eq_of_lt (omega (arith, all)))

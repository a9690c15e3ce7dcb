use Rattle.std.proofs.Common.{◌≡◌, ◌/◌, ◌%◌, ◌*◌, ◌^◌, ap, arith}
use Rattle.n_sim.proofs.Steps.{power_small}
use Rattle.n_sim.proofs.making.upper_half.Goals as goal

pub overflow_shr-result : goal.overflow_shr-result
overflow_shr-result c = omega (arith, power_small c.args.others c.requires)

pub returns : goal.returns
returns c =
    let e : 1 * 2 ^ c.args.others % 4294967296 ≡ 2 ^ c.args.others = omega (arith, power_small c.args.others c.requires) in
    ap (λ k. c.args.table / 2 ^ k) e

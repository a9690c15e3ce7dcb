use Rattle.std.proofs.Common.{◌+◌, ◌≤◌, length, take, flat_map, map, arith}
use Rattle.m_valid.specs.Validity.{half, output_uses}
use Rattle.m_valid.proofs.Flagging.{output_more, tells_all, tells_end}
use Rattle.m_valid.proofs.needs.flag_outputs.Goals as goal

pub loop-i-preserved : goal.loop-i-preserved
loop-i-preserved c = λ before h.
    let i = c.loop-i.i in
    let all = c.args.network.now.outputs in
    tells_all _ before (flat_map output_uses (take i all)) (map half c.output_literals.result.now) (flat_map output_uses (take (i + 1) all)) (output_more all i c.output_literals.result.now c.output_literals.ensures.literals)
    (c.set_nodes.ensures _ (c.loop-i.invariant before h))

pub returns : goal.returns
returns c = λ before h.
    let past : length c.args.network.now.outputs ≤ c.loop-i.i = omega arith in
    tells_end _ before output_uses c.args.network.now.outputs c.loop-i.i past (c.loop-i.invariant before h)

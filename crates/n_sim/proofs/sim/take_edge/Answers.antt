use Rattle.std.proofs.Common.{Bool, sym, ◌∙◌, arith}
use Rattle.std.proofs.Math.ListN.{length-set}
use Rattle.n_sim.proofs.Edges.{move_begins, move_next, move_ends}
use Rattle.n_sim.proofs.sim.take_edge.Goals as goal

pub loop-i-init : goal.loop-i-init
loop-i-init c = (c.requires.count, sym (move_begins c.args.nets.now c.args.flops.now c.args.state.now))

pub loop-i-preserved : goal.loop-i-preserved
loop-i-preserved c = (
  omega (arith, length-set {A = Bool}),
  move_next c.args.nets.now c.loop-i.state c.args.flops.now c.args.state.now c.loop-i.i _ c.held.result c.requires.count c.loop-i-test.true c.loop-i.invariant.1 c.held.ensures,
)

pub returns : goal.returns
returns c = c.loop-i.invariant.1 ∙ move_ends c.args.nets.now c.args.flops.now c.args.state.now c.loop-i.i c.requires.count (omega arith)

use Rattle.std.proofs.Common.{◌≡◌, ℕ, length, sym, ◌∙◌, arith}
use Rattle.std.proofs.Math.ListN.{length-set}
use Rattle.n_sim.specs.Lanes.{stream}
use Rattle.n_sim.proofs.Edges.{move_begins, move_ends}
use Rattle.n_sim.proofs.Streams.{lane_moves, stream_length}
use Rattle.n_sim.proofs.lanes.take_edge.Goals as goal

pub loop-i-init : goal.loop-i-init
loop-i-init c = (c.requires.count, λ j h. sym (move_begins (stream j c.args.nets.now) c.args.flops.now (stream j c.args.state.now)))

pub loop-i-preserved : goal.loop-i-preserved
loop-i-preserved c = (
  omega (arith, length-set {A = ℕ}),
  λ j h. lane_moves j c.args.nets.now c.loop-i.state c.args.state.now c.args.flops.now c.loop-i.i _ c.choose.result c.requires.count c.loop-i-test.true (c.loop-i.invariant.1 j h) (c.choose.ensures j),
)

pub returns : goal.returns
returns c = λ j h.
    let bits : length (stream j c.args.state.now) ≡ length c.args.flops.now = stream_length j c.args.state.now ∙ c.requires.count in
    c.loop-i.invariant.1 j h ∙ move_ends (stream j c.args.nets.now) c.args.flops.now (stream j c.args.state.now) c.loop-i.i bits (omega arith)

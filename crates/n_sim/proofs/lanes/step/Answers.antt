use Rattle.std.proofs.Common.{◌≡◌, ◌≤◌, ◌+◌, ◌∙◌, ◌∷◌, ◌++◌, length, take, map, get_or, ap, sym, arith, true, false}
use Rattle.std.proofs.lemmas.List.{length-map}
use Rattle.lz_base.specs.Bits.{words_bits}
use Rattle.lz_circuit.specs.Values.{value_at}
use Rattle.n_cells.specs.Netlist.{first_net}
use Rattle.n_cells.specs.Run.{after_edge}
use Rattle.n_cells.specs.Walk.{walked}
use Rattle.n_sim.specs.Lanes.{stream}
use Rattle.n_sim.specs.Steps.{IsFront, joined, moved, place_at, run_steps}
use Rattle.n_sim.proofs.Cycles.{cycle_edge, cycle_shown, front_is}
use Rattle.n_sim.proofs.Places.{flops_below, moved_below}
use Rattle.n_sim.proofs.Steps.{constant_zero}
use Rattle.n_sim.proofs.Streams.{joined_length, stream_front, stream_length, stream_take}
use Rattle.n_sim.proofs.lanes.step.Goals as goal

pub put_steps-requires-clause-room : goal.put_steps-requires-clause-room
put_steps-requires-clause-room c = omega (arith, c.put_lane_front-first.ensures.next, ap length c.as_slice.ensures, c.requires.room, c.requires.state, c.requires.input)

pub put_steps-requires-clause-back : goal.put_steps-requires-clause-back
put_steps-requires-clause-back c =
    let first : first_net c.args.netlist.now.inputs c.args.netlist.now.flops ≡ c.put_lane_front-first.result = omega (arith, c.put_lane_front-first.ensures.next, c.requires.state, c.requires.input) in
    rw (c.as_slice.ensures, ← first) c.requires.laid.1.computes.back

pub put_places-requires-clause-there : goal.put_places-requires-clause-there
put_places-requires-clause-there c =
    let laid = c.requires.laid.1 in
    let long : first_net c.args.netlist.now.inputs c.args.netlist.now.flops + length c.args.plan.now.steps ≡ length c.put_steps.new.words = omega (arith, c.requires.room) in
    let below = moved_below _ c.requires.laid.0 (joined c.args.netlist.now.nets) (omega arith) laid.computes.there in
    rw (c.as_slice-2.ensures, laid.outputs, ← long) below

pub put_places-requires-clause-room : goal.put_places-requires-clause-room
put_places-requires-clause-room c =
    omega (
      arith,
      c.requires.out,
      ap length c.as_slice-2.ensures,
      ap length c.requires.laid.1.outputs,
      length-map (joined c.args.netlist.now.nets) (place_at c.requires.laid.0),
      joined_length c.args.netlist.now.outputs c.args.netlist.now.nets c.requires.formed.begun.lines.filled,
    )

pub take_edge-requires-clause-count : goal.take_edge-requires-clause-count
take_edge-requires-clause-count c =
    omega (arith, c.requires.state, ap length c.as_slice-3.ensures, ap length c.requires.laid.1.edges, length-map c.args.netlist.now.flops (moved c.requires.laid.0))

pub take_edge-requires-clause-there : goal.take_edge-requires-clause-there
take_edge-requires-clause-there c =
    let laid = c.requires.laid.1 in
    let long : first_net c.args.netlist.now.inputs c.args.netlist.now.flops + length c.args.plan.now.steps ≡ length c.put_steps.new.words = omega (arith, c.requires.room) in
    let below = flops_below _ c.requires.laid.0 c.args.netlist.now.flops (omega arith) laid.computes.there in
    rw (c.as_slice-3.ensures, laid.edges, ← long) below

pub returns : goal.returns
returns c = λ j h inputs fit bits.
    let n = c.args.netlist.now in
    let laid = c.requires.laid.1 in
    let places = c.requires.laid.0 in
    let plan = c.args.plan.now in
    let state = stream j c.args.state.now in
    let front = false ∷ true ∷ words_bits inputs ++ state in
    let words = c.put_steps.new.words in
    let many : length state ≡ length n.flops = stream_length j c.args.state.now ∙ c.requires.state in
    let before : take c.put_lane_front-first.result (stream j c.put_lane_front-first.new.nets) ≡ front =
    stream_take j c.put_lane_front-first.result c.put_lane_front-first.new.nets
    ∙ ap (stream j) c.put_lane_front-first.ensures.values
    ∙ stream_front j c.args.input.now c.args.state.now h
    ∙ ap (λ l. false ∷ true ∷ l ++ state) (sym bits) in
    let run : stream j words ≡ run_steps front plan.steps = c.put_steps.ensures j ∙ ap (λ l. run_steps l c.as_slice.result.now) before ∙ ap (run_steps front) c.as_slice.ensures in
    let is : IsFront (first_net n.inputs n.flops) front = front_is n inputs state fit many in
    let two : 2 ≤ first_net n.inputs n.flops = omega arith in
    let none : value_at (stream j words) 0 ≡ false = ap (λ v. value_at v 0) run ∙ constant_zero (first_net n.inputs n.flops) plan.steps front two is in
    let values : map (value_at (stream j words)) places ≡ walked n inputs state = ap (λ v. map (value_at v) places) run ∙ laid.computes.values front is in (
      walked n inputs state,
      c.net_after_net.ensures n inputs state c.requires.formed fit many,
      ap (stream j) c.put_places.ensures ∙ ap (λ l. stream j (map (λ k. get_or words k 0) l)) c.as_slice-2.ensures ∙ cycle_shown n plan.steps plan.shown plan.flops places words j (walked n inputs state) laid none values,
      c.take_edge.ensures j h ∙ ap (λ fs. after_edge (stream j words) fs state) c.as_slice-3.ensures ∙ cycle_edge n plan.steps plan.shown plan.flops places (stream j words) state (walked n inputs state) laid none values,
    )

use Rattle.std.proofs.Common.{◌≤◌, length, ap, arith, ◌∙◌, ◌++◌}
use Rattle.n_sim.specs.Steps.{place_at}
use Rattle.n_sim.proofs.Streams.{show_all, show_on}
use Rattle.n_sim.proofs.layout.shown_places.Goals as goal

pub loop-i-preserved : goal.loop-i-preserved
loop-i-preserved c =
    show_on (place_at c.args.places.now) c.loop-i.shown _ c.args.netlist.now.nets c.loop-i.i c.output_nets.result.now c.output_nets.ensures.nets
    (c.in_ok-append.ensures ∙ ap (λ l. c.loop-i.shown ++ l) c.in_ok-places_of.ensures) c.loop-i.invariant

pub returns : goal.returns
returns c =
    let past : length c.args.netlist.now.nets ≤ c.loop-i.i = omega (arith, ap length c.outputs-i-end.ensures.ports) in
    show_all (place_at c.args.places.now) c.loop-i.shown c.args.netlist.now.nets c.loop-i.i past c.loop-i.invariant

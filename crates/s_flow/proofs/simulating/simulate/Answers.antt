use Rattle.s_flow.specs.Simulation.{widths_of}
use Rattle.s_flow.proofs.Fitting.{fit_ports, cycle_there, run_ends}
use Rattle.s_flow.proofs.simulating.simulate.Goals as goal

pub cycle-requires-clause-input : goal.cycle-requires-clause-input
cycle-requires-clause-input c =
    rw c.as_slice.ensures (fit_ports c.args.netlist.now.inputs c.input-item.result
    (cycle_there (widths_of c.args.netlist.now.inputs) c.as_slice-input-items.result.now c.loop-input.input-index c.input-item.result c.loop-input.invariant.fit c.loop-input-test.true c.input-item.is))

pub returns : goal.returns
returns c =
    rw (← c.as_slice-input-items.ensures) (run_ends c.args.netlist.now c.loop-input.sim.state _ c.as_slice-input-items.result.now c.loop-input.cycles c.loop-input.input-index c.loop-input-test.false c.loop-input.invariant.run)

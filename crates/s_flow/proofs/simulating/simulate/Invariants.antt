use Rattle.std.proofs.Common.{◌≡◌, ◌++◌, List, drop}
use Rattle.lz_base.specs.WordValue.{WordValue}
use Rattle.n_cells.specs.Run.{Runs, first_state}
use Rattle.t_trace.specs.Widths.{CyclesFit}
use Rattle.s_flow.specs.Simulation.{widths_of}
use Rattle.s_flow.proofs.simulating.simulate.Given as goal

abbrev pub invariant-loop-input : goal.invariant-loop-input
invariant-loop-input l = record {
  same : l.sim.netlist ≡ l.netlist;
  fit : CyclesFit (widths_of l.netlist.inputs) (drop l.input-index l.input-items);
  run : (rest : List (List WordValue)) → Runs l.netlist l.sim.state (drop l.input-index l.input-items) rest
      → Runs l.netlist (first_state l.netlist) l.input-items (l.cycles ++ rest);
}

use Rattle.std.proofs.Common.{◌≡◌, length}
use Rattle.lz_circuit.specs.Lines.{port_bits}
use Rattle.t_trace.specs.Widths.{CyclesFit}
use Rattle.s_flow.specs.Simulation.{widths_of}
use Rattle.s_flow.proofs.InTurn.{IsUnderWay}
use Rattle.s_flow.proofs.turns.simulate_lanes.Given as goal

abbrev pub invariant-loop-rest : goal.invariant-loop-rest
invariant-loop-rest l = record {
  netlist : l.streams.lanes.netlist ≡ l.netlist;
  input : length l.streams.input.items ≡ port_bits l.netlist.inputs;
  out : length l.streams.out.items ≡ port_bits l.netlist.outputs;
  fit : CyclesFit (widths_of l.netlist.inputs) l.rest;
  on : IsUnderWay l.netlist l.count l.streams.lanes.state l.stimulus.cycles l.rest l.cycles;
}

abbrev pub decreases-loop-rest : goal.decreases-loop-rest
decreases-loop-rest l = length l.rest

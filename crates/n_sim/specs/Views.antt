-- How the simulators are seen, and what they keep.
use Rattle.std.specs.Prelude.{◌≡◌, ◌+◌, ℕ, List, length}
use Rattle.n_cells.specs.Netlist.{IsWellFormed, first_net, net_count}
use Rattle.n_sim.specs.declared.lanes.Lanes.TheInside as lanes
use Rattle.n_sim.specs.declared.sim.Sim.TheInside as sim
use Rattle.n_sim.specs.Steps.{IsLaidOut}
use Rattle.n_sim.specs.SimValue.{SimValue, LanesValue}

abbrev pub sim_value : sim.Inside → SimValue
sim_value s = record { netlist = s.netlist.now; state = s.state.items }

-- a bit for each flip-flop, room for the value of each net, and the cells laid out
pub record IsReady (s : sim.Inside) : Type 0 where
  pub formed : IsWellFormed s.netlist.now
  pub gates : s.gates ≡ s.netlist.now.cells
  pub nets : length s.nets.items ≡ net_count s.netlist.now
  pub state : length s.state.items ≡ length s.netlist.now.flops

abbrev pub lanes_value : lanes.Inside → LanesValue
lanes_value l = record { netlist = l.netlist.now; state = l.state.items }

-- a word for each flip-flop, the netlist laid out, and room for the words before the steps and of each step
pub record AreReady (l : lanes.Inside) : Type 0 where
  pub formed : IsWellFormed l.netlist.now
  pub laid : (places : List ℕ) × IsLaidOut l.netlist.now l.plan.steps l.plan.shown l.plan.flops places
  pub words : length l.words.items ≡ first_net l.netlist.now.inputs l.netlist.now.flops + length l.plan.steps
  pub state : length l.state.items ≡ length l.netlist.now.flops

use Rattle.std.proofs.Common.{◌≡◌, ◌≤◌, List, Bool, length, map, take}
use Rattle.lz_circuit.specs.Values.{value_at}
use Rattle.n_cells.specs.Netlist.{AllBelow}
use Rattle.n_sim.proofs.layout.front_places.Given as goal

abbrev pub invariant-loop-i : goal.invariant-loop-i
invariant-loop-i l = record {
  count : length l.places ≡ l.i;
  there : AllBelow l.i l.places;
  same : (front : List Bool) → l.i ≤ length front → map (value_at front) l.places ≡ take l.i front;
}

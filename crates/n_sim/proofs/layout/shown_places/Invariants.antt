use Rattle.std.proofs.Common.{◌≡◌, ◌++◌, map, drop}
use Rattle.n_sim.specs.Steps.{joined, place_at}
use Rattle.n_sim.proofs.layout.shown_places.Given as goal

abbrev pub invariant-loop-i : goal.invariant-loop-i
invariant-loop-i l = l.shown ++ map (place_at l.places) (joined (drop l.i l.netlist.nets)) ≡ map (place_at l.places) (joined l.netlist.nets)

use Rattle.std.proofs.Common.{◌≡◌, map, take}
use Rattle.n_sim.specs.Steps.{place_at}
use Rattle.n_sim.proofs.layout.places_of.Given as goal

abbrev pub invariant-loop-net : goal.invariant-loop-net
invariant-loop-net l = l.found ≡ map (place_at l.places) (take l.net-index l.nets)

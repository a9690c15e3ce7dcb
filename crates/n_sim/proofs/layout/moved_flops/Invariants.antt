use Rattle.std.proofs.Common.{◌≡◌, map, take}
use Rattle.n_sim.specs.Steps.{moved}
use Rattle.n_sim.proofs.layout.moved_flops.Given as goal

abbrev pub invariant-loop-flop : goal.invariant-loop-flop
invariant-loop-flop l = l.found ≡ map (moved l.places) (take l.flop-index l.flops)

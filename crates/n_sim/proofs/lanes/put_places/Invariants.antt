use Rattle.std.proofs.Common.{◌≡◌, length, take, map, get_or}
use Rattle.n_sim.proofs.lanes.put_places.Given as goal

abbrev pub invariant-loop-i : goal.invariant-loop-i
invariant-loop-i l = (length l.out ≡ length l.initial.out) × (take l.i l.out ≡ map (λ n. get_or l.words n 0) (take l.i l.places))

use Rattle.std.proofs.Common.{◌≡◌, ◌+◌, ◌++◌, length, take}
use Rattle.n_sim.proofs.front.put_all.Given as goal

abbrev pub invariant-loop-value : goal.invariant-loop-value
invariant-loop-value g l =
    (l.next ≡ l.initial.next + l.value-index) × (length l.nets ≡ length l.initial.nets)
    × (take l.next l.nets ≡ take l.initial.next l.initial.nets ++ take l.value-index l.values)

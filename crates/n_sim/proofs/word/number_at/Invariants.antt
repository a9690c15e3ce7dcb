use Rattle.std.proofs.Common.{◌≡◌, ◌<◌, ◌≤◌, ◌-◌, ◌^◌, length, map, drop}
use Rattle.lz_base.specs.Bits.{number_of}
use Rattle.lz_circuit.specs.Values.{value_at}
use Rattle.n_sim.proofs.word.number_at.Given as goal

abbrev pub invariant-loop-i : goal.invariant-loop-i
invariant-loop-i l =
    (l.i ≤ length l.nets) × (l.number ≡ number_of (map (value_at l.values) (drop l.i l.nets))) × (l.number < 2 ^ (length l.nets - l.i))

abbrev pub decreases-loop-i : goal.decreases-loop-i
decreases-loop-i l = l.i

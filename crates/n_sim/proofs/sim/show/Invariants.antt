use Rattle.std.proofs.Common.{◌≡◌, length, map, take}
use Rattle.lz_base.specs.Bits.{word_of}
use Rattle.lz_circuit.specs.Values.{value_at}
use Rattle.n_sim.proofs.sim.show.Given as goal

abbrev pub invariant-loop-i : goal.invariant-loop-i
invariant-loop-i l =
    (length l.out ≡ length l.netlist.nets) × (take l.i l.out ≡ map (λ nets. word_of (map (value_at l.nets) nets)) (take l.i l.netlist.nets))

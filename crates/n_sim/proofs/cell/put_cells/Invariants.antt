use Rattle.std.proofs.Common.{◌≡◌, length, take, drop, false}
use Rattle.lz_circuit.specs.Values.{value_at}
use Rattle.n_cells.specs.Walk.{all_values}
use Rattle.n_sim.proofs.Walks.{Reaches}
use Rattle.n_sim.proofs.cell.put_cells.Given as goal

abbrev pub invariant-loop-gate : goal.invariant-loop-gate
invariant-loop-gate l =
    Reaches (drop l.gate-index l.gates) (length l.initial.nets) l.next × (length l.nets ≡ length l.initial.nets) × (value_at l.nets 0 ≡ false)
    × (all_values (take l.next l.nets) (drop l.gate-index l.gates) ≡ all_values (take l.first l.initial.nets) l.gates)

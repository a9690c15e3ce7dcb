use Rattle.std.proofs.Common.{◌≡◌, ◌+◌, drop}
use Rattle.v_values.specs.Queues.{write_counts}
use Rattle.v_machine.proofs.counting.+target_counting.Given as goal

abbrev pub invariant-parts_writes-loop-part : goal.invariant-parts_writes-loop-part
invariant-parts_writes-loop-part l = l.all + write_counts (drop l.part-index l.parts) ≡ write_counts l.parts

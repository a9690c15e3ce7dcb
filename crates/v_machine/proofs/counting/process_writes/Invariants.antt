use Rattle.std.proofs.Common.{◌≡◌, ◌+◌, drop}
use Rattle.v_machine.specs.Runnable.{process_counts}
use Rattle.v_machine.proofs.counting.process_writes.Given as goal

abbrev pub invariant-loop-process : goal.invariant-loop-process
invariant-loop-process l = l.counted + process_counts (drop l.process-index l.processes) ≡ process_counts l.processes

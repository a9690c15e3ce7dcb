use Rattle.std.proofs.Common.{◌≡◌, ◌≤◌, ◌+◌, ◌++◌, length, drop, true}
use Rattle.std.specs.Prelude.{vec_capacity}
use Rattle.v_core.specs.Cores.{acts_where}
use Rattle.v_values.specs.Writes.{all_fit}
use Rattle.v_order.specs.Counting.{steps_in_order}
use Rattle.v_order.specs.Stepping.{all_finished}
use Rattle.v_machine.specs.Executed.{stepping}
use Rattle.v_machine.specs.Runnable.{process_counts}
use Rattle.v_machine.proofs.Stepped.{is_clocked}
use Rattle.v_machine.proofs.edges.take_all_steps.Given as goal

abbrev pub invariant-loop-process : goal.invariant-loop-process
invariant-loop-process l = record {
  finishes : all_finished (acts_where is_clocked l.names (drop l.process-index l.processes)) (stepping l.now l.queue)
      ≡ all_finished (acts_where is_clocked l.names l.processes) (stepping l.fn.now l.fn.queue);
  queued : all_fit l.fn.now.shape l.queue.writes ≡ true;
  shape : l.now.shape ≡ l.fn.now.shape;
  few : length l.queue.writes + process_counts (drop l.process-index l.processes) ≤ length l.fn.queue.writes + process_counts l.processes;
  room : l.queue.room ≡ l.fn.queue.room;
  counts : l.counts.items ++ steps_in_order (acts_where is_clocked l.names (drop l.process-index l.processes)) l.now.view
      ≡ steps_in_order (acts_where is_clocked l.names l.processes) l.fn.now.view;
  counted : length l.counts.items ≤ l.process-index;
  places : vec_capacity l.counts ≡ vec_capacity l.fn.counts;
}

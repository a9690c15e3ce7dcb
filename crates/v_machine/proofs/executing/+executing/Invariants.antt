use Rattle.std.proofs.Common.{◌≡◌, ◌≤◌, ◌+◌, length, drop, true}
use Rattle.v_meaning.specs.Acts.{sequence}
use Rattle.v_values.specs.Writes.{all_fit}
use Rattle.v_machine.specs.Executed.{all_acts_in, stepping, write_counts}
use Rattle.v_order.specs.Counting.{steps_of}
use Rattle.v_order.specs.Stepping.{finished}
use Rattle.v_machine.proofs.executing.+executing.Given as goal

abbrev pub invariant-execute_all-loop-one : goal.invariant-execute_all-loop-one
invariant-execute_all-loop-one l = record {
  finishes : finished (sequence (all_acts_in (drop l.one-index l.all) l.names)) (stepping l.now l.queue)
      ≡ finished (sequence (all_acts_in l.all l.names)) (stepping l.fn.now l.fn.queue);
  queued : all_fit l.fn.now.shape l.queue.writes ≡ true;
  shape : l.now.shape ≡ l.fn.now.shape;
  few : length l.queue.writes + write_counts (drop l.one-index l.all) ≤ length l.fn.queue.writes + write_counts l.all;
  room : l.queue.room ≡ l.fn.queue.room;
  steps : l.steps + steps_of (sequence (all_acts_in (drop l.one-index l.all) l.names)) l.now.view ≡ steps_of (sequence (all_acts_in l.all l.names)) l.fn.now.view;
  bound : l.steps + write_counts (drop l.one-index l.all) ≤ write_counts l.all;
}

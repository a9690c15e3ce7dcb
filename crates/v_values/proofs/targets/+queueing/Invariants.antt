use Rattle.std.proofs.Common.{◌≡◌, ◌≤◌, ◌+◌, ◌++◌, length, drop}
use Rattle.v_meaning.specs.Targets.{parts_writes}
use Rattle.v_values.specs.Kept.{senses_in}
use Rattle.v_values.specs.Queues.{write_counts}
use Rattle.v_values.proofs.TargetTurns.{Behind}
use Rattle.v_values.proofs.targets.+queueing.Given as goal

abbrev pub invariant-enqueue_parts-loop-part : goal.invariant-enqueue_parts-loop-part
invariant-enqueue_parts-loop-part l = record {
  behind : Behind l.names l.now.shape l.now.view l.parts (drop l.part-index l.parts)
      (l.fn.queue.writes ++ parts_writes (senses_in l.names l.parts) l.now.view l.bits) l.queue.writes l.bits l.behind l.left;
  few : length l.queue.writes + write_counts (drop l.part-index l.parts) ≤ length l.fn.queue.writes + write_counts l.parts;
  room : l.queue.room ≡ l.fn.queue.room;
}

use Rattle.std.proofs.Common.{take}
use Rattle.v_order.specs.Counting.{TakesDown}
use Rattle.v_machine.proofs.scheduling.short_entry.Given as goal

abbrev pub invariant-loop-i : goal.invariant-loop-i
invariant-loop-i l = TakesDown l.fn.left (take l.i l.schedule) l.left

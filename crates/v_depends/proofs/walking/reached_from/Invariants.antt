use Rattle.std.proofs.Common.{◌-◌, length}
use Rattle.v_depends.proofs.Walks.{Walks}
use Rattle.v_depends.proofs.walking.reached_from.Given as goal

abbrev pub invariant-loop-next : goal.invariant-loop-next
invariant-loop-next l = Walks l.rows l.starts l.reached l.next

abbrev pub decreases-loop-next : goal.decreases-loop-next
decreases-loop-next l = length l.rows - l.next

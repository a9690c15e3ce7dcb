use Rattle.std.proofs.Common.{◌-◌, length}
use Rattle.v_depends.proofs.TurnByTurn.{Progress}
use Rattle.v_depends.proofs.turns.all_turns.Given as goal

abbrev pub invariant-loop-next : goal.invariant-loop-next
invariant-loop-next l = Progress l.rows l.turns l.next

abbrev pub decreases-loop-next : goal.decreases-loop-next
decreases-loop-next l = length l.rows - l.next

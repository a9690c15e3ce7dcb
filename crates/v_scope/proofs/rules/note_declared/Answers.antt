use Rattle.v_scope.proofs.Judging.{twice_none, twice_some}
use Rattle.v_scope.proofs.rules.note_declared.Goals as goal

pub returns-in-None : goal.returns-in-None
returns-in-None c before met = twice_none _ before _ _ c.in-None.is met

pub returns-in_ok-added-in-Some : goal.returns-in_ok-added-in-Some
returns-in_ok-added-in-Some c before met =
    twice_some c.meet.new.met before _ _ _ _ _ _ c.in-Some.is c.bytes.ensures.value ((c.in_ok-added-in-Some.ensures before met).0) ((c.in_ok-added-in-Some.ensures before met).1) c.note.ensures

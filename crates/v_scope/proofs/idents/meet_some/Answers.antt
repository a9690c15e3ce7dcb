use Rattle.v_scope.proofs.Judging.{met_none, met_some}
use Rattle.v_scope.proofs.idents.meet_some.Goals as goal

pub returns-in-None : goal.returns-in-None
returns-in-None c names met = met_none _ names _ c.in-None.is met

pub returns-in_ok-meet-in-Some : goal.returns-in_ok-meet-in-Some
returns-in_ok-meet-in-Some c names met = met_some c.meet.new.met names _ _ _ c.in-Some.is c.bytes.ensures.value ((c.in_ok-meet-in-Some.ensures names met).1)

use Rattle.v_declare.proofs.Written.{met_one}
use Rattle.v_declare.proofs.roles.meet_name.Goals as goal

pub returns : goal.returns
returns c = met_one _ _ _ _ _ c.bytes.ensures.value c.in_ok-meet.ensures

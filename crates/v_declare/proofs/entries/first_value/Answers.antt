use Rattle.v_declare.proofs.Made.{first_is}
use Rattle.v_declare.proofs.entries.first_value.Goals as goal

pub returns-in_ok-constant-in-Some-clause-value : goal.returns-in_ok-constant-in-Some-clause-value
returns-in_ok-constant-in-Some-clause-value c range h =
    first_is c.args.names.now range c.args.shape _ _ _ h c.in-Some.is (c.assigned.ensures.value _ _ c.in_ok-constant-in-Some.ensures.constant)

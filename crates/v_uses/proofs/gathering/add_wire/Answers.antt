use Rattle.std.proofs.Common.{ap}
use Rattle.v_meaning.specs.Uses.{wire_use}
use Rattle.v_uses.proofs.Adding.{none_more, same_more, on_ok}
use Rattle.v_uses.proofs.gathering.add_wire.Goals as goal

pub returns-in-None : goal.returns-in-None
returns-in-None c = none_more _ (λ names. ap (wire_use names c.args.net.now.name) c.in-None.is)

pub returns-in-Some : goal.returns-in-Some
returns-in-Some c = on_ok c.add_assign.result (same_more (λ names. names) (λ names. ap (wire_use names c.args.net.now.name) c.in-Some.is)) c.add_assign.ensures

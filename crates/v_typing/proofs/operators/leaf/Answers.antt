use Rattle.v_typing.proofs.KeepLaws.{leaf_formed}
use Rattle.v_typing.proofs.SitedLaws.{leaf_sited}
use Rattle.v_typing.proofs.operators.leaf.Goals as goal

pub returns-clause-form : goal.returns-clause-form
returns-clause-form c names word h = leaf_formed c.args.width c.args.x names word h

pub returns-clause-sited : goal.returns-clause-sited
returns-clause-sited c = leaf_sited _ _

use Rattle.std.proofs.Common.{ap}
use Rattle.v_meaning.specs.Uses.{item_process_uses}
use Rattle.v_uses.proofs.Adding.{same_more, on_ok}
use Rattle.v_uses.proofs.gathering.add_item_process.Goals as goal

pub returns-in-Always : goal.returns-in-Always
returns-in-Always c = on_ok c.add_process.result (same_more (λ names. names) (λ names. ap (item_process_uses names) c.in-Always.is)) c.add_process.ensures

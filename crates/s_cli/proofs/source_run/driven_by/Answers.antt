use Rattle.s_cli.proofs.Traced.{driven, unchosen}
use Rattle.s_cli.proofs.source_run.driven_by.Goals as goal

pub returns-in-Err-clause-drives : goal.returns-in-Err-clause-drives
returns-in-Err-clause-drives c = λ a b is other. unchosen _ _ _ c.in_ok-stimulus.stimulus _ c.in-Err.stop c.len.ensures c.in_ok-stimulus.ensures.drives c.in-Err.ensures.chooses a b is other

pub returns-clause-drives : goal.returns-clause-drives
returns-clause-drives c = λ a b is other. driven _ _ _ c.in_ok-stimulus.stimulus c.in-Ok.choices _ c.len.ensures c.in_ok-stimulus.ensures.drives c.in-Ok.ensures.chooses a b is other

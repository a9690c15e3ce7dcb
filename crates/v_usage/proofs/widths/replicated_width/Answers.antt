use Rattle.v_usage.proofs.Arms.{replicated_counted}
use Rattle.v_usage.proofs.widths.replicated_width.Goals as goal

pub returns : goal.returns
returns c = replicated_counted c.args.names.now c.args.count.now c.args.parts.now _ _ _ c.in_ok-count.ensures c.in_ok-x.ensures c.times.ensures

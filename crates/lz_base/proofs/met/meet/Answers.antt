use Rattle.std.proofs.Common.{◌∙◌, ap, not}
use Rattle.lz_base.proofs.MetNames.{met_push}
use Rattle.lz_base.proofs.met.meet.Goals as goal

pub returns : goal.returns
returns c names met = (c.in_ok-insert.ensures.added ∙ ap not (met c.args.name), met_push c.args.met.now c.insert.new.self c.args.name names c.in_ok-insert.ensures.updates met)

use Rattle.std.proofs.Common.{◌∙◌}
use Rattle.lz_base.proofs.met.is_met.Goals as goal

pub returns : goal.returns
returns c names met = c.contains.ensures ∙ met c.args.name

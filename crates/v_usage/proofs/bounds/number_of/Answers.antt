use Rattle.std.proofs.Common.{sym, ap, ◌∙◌}
use Rattle.v_meaning.specs.Names.{or_zero}
use Rattle.v_usage.proofs.bounds.number_of.Goals as goal

pub returns-in-Some : goal.returns-in-Some
returns-in-Some c names x is = ap or_zero (sym c.in-Some.is ∙ c.number.ensures names x is)

pub returns-in-None : goal.returns-in-None
returns-in-None c names x is = ap or_zero (sym c.in-None.is ∙ c.number.ensures names x is)

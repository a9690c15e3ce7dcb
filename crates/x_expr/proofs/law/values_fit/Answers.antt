-- The law of the sizes of values.
use Rattle.x_expr.proofs.Fitting.{value_fits}
use Rattle.x_expr.proofs.law.values_fit.Goals as goal

pub returns : goal.returns
returns c = value_fits

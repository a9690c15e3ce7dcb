-- The literal of each kind of spelling is fit.
use Rattle.std.proofs.Common.{arith}
use Rattle.v_numbers.proofs.Fitting.{fit_based_made, fit_plain_made}
use Rattle.v_numbers.proofs.reading.literal.Goals as goal

pub returns-in-Decimal-clause-fit : goal.returns-in-Decimal-clause-fit
returns-in-Decimal-clause-fit c = fit_plain_made _ _ _ c.literal_behind.ensures c.bytes.ensures.value c.bytes.ensures.form

pub returns-in-Based-clause-fit : goal.returns-in-Based-clause-fit
returns-in-Based-clause-fit c = fit_based_made _ _ _ _ c.based.ensures c.bytes-in-Based.ensures.value (omega arith) (omega arith) c.bytes-in-Based.ensures.form

pub returns-in-Sized-clause-fit : goal.returns-in-Sized-clause-fit
returns-in-Sized-clause-fit c =
    fit_based_made _ _ _ _ c.based-in-Sized.ensures c.bytes-in-Sized-2.ensures.value c.width_of.ensures.has_bit c.width_of.ensures.within c.bytes-in-Sized-2.ensures.form

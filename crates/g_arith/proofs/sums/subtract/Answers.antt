use Rattle.std.proofs.Common.{sym, subst}
use Rattle.g_arith.specs.Sums.{IsInverse}
use Rattle.g_arith.proofs.Adder.{sum_subtracts}
use Rattle.g_arith.proofs.sums.subtract.Goals as goal

pub returns-clause-number : goal.returns-clause-number
returns-clause-number g c =
    sum_subtracts _ _ c.args.x.now c.args.y.now _ _ (c.constants.ensures.one c.args.builder.now.part) c.requires.same_width (subst (IsInverse c.args.y.now) (sym c.as_slice.ensures) c.in_ok-inverted.ensures)
    c.in_ok-bits.ensures.adds c.in_ok-bits.ensures.number

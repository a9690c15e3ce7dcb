use Rattle.g_arith.proofs.Growth.{adds_further}
use Rattle.g_arith.proofs.Choosing.{bit_chosen}
use Rattle.g_arith.proofs.choices.choose_bit.Goals as goal

pub returns-clause-bit : goal.returns-clause-bit
returns-clause-bit g c =
    bit_chosen _ _ _ _ c.args.condition _ c.args.x c.args.y _ _ _ c.complement.ensures.value c.in_ok-differ.ensures.adds c.in_ok-change.ensures.adds c.in_ok-literal.ensures.adds c.requires.condition c.requires.first
    c.in_ok-differ.ensures.bit c.in_ok-change.ensures.bit c.in_ok-literal.ensures.bit

pub returns-clause-adds : goal.returns-clause-adds
returns-clause-adds g c = adds_further _ _ _ (adds_further _ _ _ c.in_ok-differ.ensures.adds c.in_ok-change.ensures.adds) c.in_ok-literal.ensures.adds

pub returns-in_err-literal-clause-adds : goal.returns-in_err-literal-clause-adds
returns-in_err-literal-clause-adds g c = adds_further _ _ _ (adds_further _ _ _ c.in_ok-differ.ensures.adds c.in_ok-change.ensures.adds) c.in_err-literal.ensures.adds

pub returns-in_err-change-clause-adds : goal.returns-in_err-change-clause-adds
returns-in_err-change-clause-adds g c = adds_further _ _ _ c.in_ok-differ.ensures.adds c.in_err-change.ensures.adds

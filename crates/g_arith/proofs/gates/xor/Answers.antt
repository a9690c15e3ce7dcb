use Rattle.std.proofs.Common.{sym, subst}
use Rattle.g_arith.specs.Words.{Adds}
use Rattle.g_arith.proofs.Growth.{adds_none, adds_once}
use Rattle.g_arith.proofs.Choosing.{xor_has}
use Rattle.g_arith.proofs.gates.xor.Goals as goal

pub returns-clause-bit : goal.returns-clause-bit
returns-clause-bit g c = xor_has _ _ c.args.a c.args.b _ c.in_ok-literal.ensures.builds c.requires.first c.requires.second c.in_ok-literal.ensures.value

pub returns-clause-adds : goal.returns-clause-adds
returns-clause-adds g c = adds_once _ _ c.in_ok-literal.ensures.builds c.in_ok-literal.ensures.differ

pub returns-in_err-literal-clause-adds : goal.returns-in_err-literal-clause-adds
returns-in_err-literal-clause-adds g c = subst (Adds c.args.builder.now.part) (sym c.in_err-literal.ensures.err) (adds_none c.args.builder.now.part)

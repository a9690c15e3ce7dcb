use Rattle.s_flow.proofs.Tables.{xor_is}
use Rattle.s_flow.proofs.making.operate.Goals as goal

pub returns-in-Xor : goal.returns-in-Xor
returns-in-Xor c = rw c.in-Xor.is (xor_is c.args.a c.args.b)

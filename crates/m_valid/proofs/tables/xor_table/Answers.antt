use Rattle.m_valid.proofs.Bits.{bit_xor_is}
use Rattle.m_valid.proofs.tables.xor_table.Goals as goal

pub returns : goal.returns
returns c = λ i lt. bit_xor_is c.args.a c.args.b i

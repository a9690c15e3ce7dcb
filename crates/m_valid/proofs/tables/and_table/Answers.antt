use Rattle.m_valid.proofs.Bits.{bit_and_is}
use Rattle.m_valid.proofs.tables.and_table.Goals as goal

pub returns : goal.returns
returns c = λ i lt. bit_and_is c.args.a c.args.b i

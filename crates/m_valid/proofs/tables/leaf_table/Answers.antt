use Rattle.m_valid.proofs.Bits.{leaf_bits}
use Rattle.m_valid.proofs.tables.leaf_table.Goals as goal

pub returns : goal.returns
returns c = leaf_bits c.args.j c.requires

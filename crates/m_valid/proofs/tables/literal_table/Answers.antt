use Rattle.m_valid.proofs.Bits.{odd_bits, even_bits}
use Rattle.m_valid.proofs.tables.literal_table.Goals as goal

pub returns-then-literal-eq1 : goal.returns-then-literal-eq1
returns-then-literal-eq1 c = λ i lt. odd_bits c.args.literal c.args.table i c.if-literal-eq1.true c.ranges.table.fits lt

pub returns-else-literal-eq1 : goal.returns-else-literal-eq1
returns-else-literal-eq1 c = λ i lt. even_bits c.args.literal c.args.table i c.if-literal-eq1.false

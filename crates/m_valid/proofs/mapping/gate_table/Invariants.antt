use Rattle.std.proofs.Common.{◌≡◌}
use Rattle.m_valid.specs.Plain.{leaf_bit, table_from}
use Rattle.m_valid.specs.Validity.{operation}
use Rattle.m_valid.proofs.mapping.gate_table.Given as goal

abbrev pub invariant-loop-i : goal.invariant-loop-i
invariant-loop-i l = l.table ≡ table_from l.i (λ i. operation (leaf_bit l.leaves i) l.gate)

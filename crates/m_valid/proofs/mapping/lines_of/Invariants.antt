use Rattle.std.proofs.Common.{◌≡◌, ◌++◌, drop}
use Rattle.m_valid.specs.Plain.{plain_lines}
use Rattle.m_valid.proofs.mapping.lines_of.Given as goal

abbrev pub invariant-loop-i : goal.invariant-loop-i
invariant-loop-i l = l.lines ++ plain_lines l.i (drop l.i l.nodes) ≡ plain_lines 0 l.nodes

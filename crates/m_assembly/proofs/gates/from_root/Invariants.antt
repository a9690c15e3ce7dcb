use Rattle.std.proofs.Common.{◌≡◌, length}
use Rattle.m_assembly.specs.Cursor.{from_root}
use Rattle.m_assembly.proofs.gates.from_root.Given as goal

abbrev pub invariant-loop-line : goal.invariant-loop-line
invariant-loop-line l = from_root l.number l.rest ≡ from_root l.number l.lines

abbrev pub decreases-loop-line : goal.decreases-loop-line
decreases-loop-line l = length l.rest

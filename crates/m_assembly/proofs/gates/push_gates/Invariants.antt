use Rattle.std.proofs.Common.{◌≡◌, drop, length}
use Rattle.m_valid.specs.Assembly.{with_gates}
use Rattle.m_assembly.proofs.Ascending.{AreLeft}
use Rattle.m_assembly.proofs.gates.push_gates.Given as goal

abbrev pub invariant-loop-gate : goal.invariant-loop-gate
invariant-loop-gate l = record {
  made : with_gates l.lines l.draft (drop l.gate-index l.gates) ≡ with_gates l.lines l.initial.draft l.gates;
  left : AreLeft l.lines l.rest (length l.draft.nets);
}

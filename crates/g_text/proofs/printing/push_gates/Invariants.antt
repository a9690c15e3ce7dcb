use Rattle.std.proofs.Common.{◌≡◌, ◌++◌, take, flat_map}
use Rattle.lz_lines.specs.Fields.{Each}
use Rattle.g_text.specs.Form.{IsGate}
use Rattle.g_text.specs.Text.{gate_line}
use Rattle.g_text.proofs.printing.push_gates.Given as goal

abbrev pub invariant-loop-gate : goal.invariant-loop-gate
invariant-loop-gate l = record {
  text : l.out.items ≡ l.initial.out.items ++ flat_map gate_line (take l.gate-index l.gates);
  small : Each IsGate (take l.gate-index l.gates);
}

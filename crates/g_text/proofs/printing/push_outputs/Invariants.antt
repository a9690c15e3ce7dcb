use Rattle.std.proofs.Common.{◌≡◌, ◌++◌, drop, take, flat_map}
use Rattle.lz_lines.specs.Fields.{Each}
use Rattle.g_text.specs.Form.{IsOutput}
use Rattle.g_text.specs.Text.{named_line}
use Rattle.g_text.proofs.printing.push_outputs.Given as goal

abbrev pub invariant-loop-i : goal.invariant-loop-i
invariant-loop-i l = record {
  text : l.out.items ++ flat_map named_line (drop l.i l.network.outputs) ≡ l.initial.out.items ++ flat_map named_line l.network.outputs;
  formed : Each IsOutput (take l.i l.network.outputs);
}

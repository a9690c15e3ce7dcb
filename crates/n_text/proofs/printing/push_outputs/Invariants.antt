use Rattle.std.proofs.Common.{◌≡◌, ◌++◌, drop, take}
use Rattle.lz_base.specs.declared.name.Port.{Port}
use Rattle.lz_base.specs.Names.{IsName}
use Rattle.lz_lines.specs.Fields.{Each}
use Rattle.n_cells.specs.Text.{output_lines}
use Rattle.n_cells.specs.Netlist.{OutputsBelow}
use Rattle.n_cells.specs.Form.{bound}
use Rattle.n_text.proofs.printing.push_outputs.Given as goal

abbrev pub invariant-loop-i : goal.invariant-loop-i
invariant-loop-i l = record {
  text : l.out.items ++ output_lines (drop l.i l.netlist.outputs) (drop l.i l.netlist.nets) ≡ l.initial.out.items ++ output_lines l.netlist.outputs l.netlist.nets;
  named : Each (λ (p : Port). IsName p.name) (take l.i l.netlist.outputs);
  below : OutputsBelow bound (take l.i l.netlist.nets);
}

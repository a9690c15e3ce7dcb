use Rattle.std.proofs.Common.{◌≡◌, ◌++◌, map, take, drop}
use Rattle.lz_base.specs.Names.{AreDistinct}
use Rattle.lz_circuit.specs.Lines.{HaveWidths}
use Rattle.n_cells.specs.Netlist.{names_of, net_count, FillOutputs, OutputsBelow}
use Rattle.n_parts.proofs.making.fill_outputs.Given as goal

abbrev pub invariant-loop-i : goal.invariant-loop-i
invariant-loop-i l = record {
  made : l.maker ≡ record l.initial.maker { outputs = l.initial.maker.outputs ++ take l.i l.ports; nets = l.initial.maker.nets ++ take l.i l.nets };
  widths : HaveWidths (drop l.i l.ports);
  filled : FillOutputs (drop l.i l.ports) (drop l.i l.nets);
  names : AreDistinct (names_of l.maker ++ map (λ p. p.name) (drop l.i l.ports));
  there : OutputsBelow (net_count l.initial.maker) (drop l.i l.nets);
}

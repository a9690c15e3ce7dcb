use Rattle.std.proofs.Common.{◌≡◌, ◌++◌, map, take, drop}
use Rattle.lz_base.specs.Names.{AreDistinct}
use Rattle.lz_circuit.specs.Lines.{HaveWidths}
use Rattle.n_cells.specs.Netlist.{names_of}
use Rattle.n_parts.proofs.making.fill_inputs.Given as goal

abbrev pub invariant-loop-port : goal.invariant-loop-port
invariant-loop-port l = record {
  made : l.maker ≡ record l.initial.maker { inputs = l.initial.maker.inputs ++ take l.port-index l.ports };
  widths : HaveWidths (drop l.port-index l.ports);
  names : AreDistinct (names_of l.maker ++ map (λ p. p.name) (drop l.port-index l.ports));
}

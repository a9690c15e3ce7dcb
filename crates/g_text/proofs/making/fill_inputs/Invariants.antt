use Rattle.std.proofs.Common.{◌≡◌, ◌++◌, map, take, drop}
use Rattle.lz_base.specs.Names.{AreDistinct}
use Rattle.lz_circuit.specs.Lines.{HaveWidths}
use Rattle.g_net.specs.Network.{names_of}
use Rattle.g_text.proofs.making.fill_inputs.Given as goal

abbrev pub invariant-loop-port : goal.invariant-loop-port
invariant-loop-port l = record {
  made : l.network ≡ record l.initial.network { inputs = l.initial.network.inputs ++ take l.port-index l.ports };
  widths : HaveWidths (drop l.port-index l.ports);
  names : AreDistinct (names_of l.network ++ map (λ p. p.name) (drop l.port-index l.ports));
}

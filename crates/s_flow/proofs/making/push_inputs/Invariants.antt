use Rattle.std.proofs.Common.{◌≡◌, ◌++◌, [], drop}
use Rattle.lz_base.specs.Names.{AreDistinct}
use Rattle.n_cells.specs.Netlist.{names_of}
use Rattle.v_meaning.specs.Cycle.{bit_ports}
use Rattle.s_flow.specs.Made.{names_in}
use Rattle.s_flow.proofs.making.push_inputs.Given as goal

abbrev pub invariant-loop-name : goal.invariant-loop-name
invariant-loop-name l = record {
  same : l.maker ≡ record l.initial.maker { inputs = l.maker.inputs };
  no_flop : l.maker.flops ≡ [];
  no_cell : l.maker.cells ≡ [];
  no_output : l.maker.outputs ≡ [];
  ports : l.maker.inputs ++ bit_ports (names_in (drop l.name-index l.names)) ≡ l.initial.maker.inputs ++ bit_ports (names_in l.names);
  distinct : AreDistinct (names_of l.maker ++ names_in (drop l.name-index l.names));
}

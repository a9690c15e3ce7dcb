use Rattle.std.proofs.Common.{◌≡◌, ◌++◌, ◌+◌, ◌≤◌, drop, length}
use Rattle.lz_base.specs.Names.{AreDistinct}
use Rattle.n_cells.specs.Netlist.{names_of, net_count}
use Rattle.v_meaning.specs.Cycle.{bit_ports}
use Rattle.s_flow.specs.Made.{names_in, nets_from}
use Rattle.s_flow.proofs.making.push_outputs.Given as goal

abbrev pub invariant-loop-index : goal.invariant-loop-index
invariant-loop-index l = record {
  same : l.maker ≡ record l.initial.maker { outputs = l.maker.outputs; nets = l.maker.nets };
  there : l.first + length l.names ≤ net_count l.maker;
  ports : l.maker.outputs ++ bit_ports (names_in (drop l.index l.names)) ≡ l.initial.maker.outputs ++ bit_ports (names_in l.names);
  nets : l.maker.nets ++ nets_from (l.first + l.index) (names_in (drop l.index l.names)) ≡ l.initial.maker.nets ++ nets_from l.first (names_in l.names);
  distinct : AreDistinct (names_of l.maker ++ names_in (drop l.index l.names));
}

use Rattle.std.proofs.Common.{◌≡◌, ◌++◌, map, take, drop}
use Rattle.lz_base.specs.Names.{AreDistinct}
use Rattle.g_net.specs.Network.{names_of, node_count, HaveLiterals, OutputsBelow}
use Rattle.g_text.proofs.making.fill_outputs.Given as goal

abbrev pub invariant-loop-output : goal.invariant-loop-output
invariant-loop-output l = record {
  made : l.network ≡ record l.initial.network { outputs = l.initial.network.outputs ++ take l.output-index l.outputs };
  widths : HaveLiterals (drop l.output-index l.outputs);
  names : AreDistinct (names_of l.network ++ map (λ o. o.name) (drop l.output-index l.outputs));
  there : OutputsBelow (node_count l.initial.network) (drop l.output-index l.outputs);
}

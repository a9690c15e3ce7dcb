use Rattle.std.proofs.Common.{◌≡◌, ◌++◌, map, take, drop}
use Rattle.g_net.specs.Network.{node_count, FlipsBelow}
use Rattle.g_text.specs.Raw.{begun}
use Rattle.g_text.proofs.making.set_flips.Given as goal

abbrev pub invariant-loop-i : goal.invariant-loop-i
invariant-loop-i l = record {
  made : l.network ≡ record l.initial.network { flips = take l.i l.flips ++ map begun (drop l.i l.flips) };
  count : node_count l.network ≡ node_count l.initial.network;
  there : FlipsBelow (node_count l.initial.network) (drop l.i l.flips);
}

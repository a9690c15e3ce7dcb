use Rattle.std.proofs.Common.{◌≡◌, ◌++◌, ◌+◌, [], drop, IsSome}
use Rattle.s_flow.specs.Made.{names_in, flops_of}
use Rattle.s_flow.proofs.making.push_flips.Given as goal

abbrev pub invariant-loop-index : goal.invariant-loop-index
invariant-loop-index l = record {
  same : l.maker ≡ record l.initial.maker { flops = l.maker.flops };
  clocked : IsSome l.maker.clock;
  no_cell : l.maker.cells ≡ [];
  no_output : l.maker.outputs ≡ [];
  flops : l.maker.flops ++ flops_of (l.first + l.index) (names_in (drop l.index l.names)) l.target l.net ≡ l.initial.maker.flops ++ flops_of l.first (names_in l.names) l.target l.net;
}

use Rattle.std.proofs.Common.{◌≡◌, ◌++◌, take}
use Rattle.n_parts.proofs.making.fill_flops.Given as goal

abbrev pub invariant-loop-flop : goal.invariant-loop-flop
invariant-loop-flop l = l.maker ≡ record l.initial.maker { flops = l.initial.maker.flops ++ take l.flop-index l.flops }

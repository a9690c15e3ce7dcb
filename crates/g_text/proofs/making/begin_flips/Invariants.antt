use Rattle.std.proofs.Common.{◌≡◌, ◌++◌, map, take}
use Rattle.g_text.specs.Raw.{begun}
use Rattle.g_text.proofs.making.begin_flips.Given as goal

abbrev pub invariant-loop-flip : goal.invariant-loop-flip
invariant-loop-flip l = l.network ≡ record l.initial.network { flips = l.initial.network.flips ++ map begun (take l.flip-index l.flips) }

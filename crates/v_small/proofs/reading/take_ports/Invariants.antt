use Rattle.std.proofs.Common.{◌≡◌, ◌++◌, length}
use Rattle.std.specs.Prelude.{map, flat_map}
use Rattle.v_syntax.specs.Small.{seen, port_spelling}
use Rattle.v_small.proofs.reading.take_ports.Given as goal

abbrev pub invariant-loop-next : goal.invariant-loop-next
invariant-loop-next l = map seen l.tokens ≡ flat_map port_spelling l.ports ++ map seen l.left

abbrev pub decreases-loop-next : goal.decreases-loop-next
decreases-loop-next l = length l.left

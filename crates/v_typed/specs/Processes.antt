-- Which processes wait for the edge of the clock (1364-2005, 9.7.2).
use Rattle.std.specs.Prelude.{Bool, true, false}
use Rattle.v_syntax.specs.declared.module.Event.{Event}
use Rattle.v_syntax.specs.declared.module.Event.TheVariants as w

abbrev pub waits_for_edge : Event → Bool
waits_for_edge (w.Posedge name) = true
waits_for_edge w.Any = false

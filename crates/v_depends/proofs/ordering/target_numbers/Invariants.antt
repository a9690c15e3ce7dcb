use Rattle.std.proofs.Common.{[], map, take}
use Rattle.v_uses.specs.Gathered.{assign_in}
use Rattle.v_depends.specs.Graphs.{Numbers}
use Rattle.v_depends.specs.Orders.{names_from}
use Rattle.v_depends.proofs.ordering.target_numbers.Given as goal

abbrev pub invariant-loop-assign : goal.invariant-loop-assign
invariant-loop-assign l = Numbers l.numbers (names_from [] (map assign_in (take l.assign-index l.assigns)))

use Rattle.std.proofs.Common.{◌≡◌, ℕ, List, map, take}
use Rattle.v_uses.specs.Gathered.{assign_in}
use Rattle.v_depends.specs.Graphs.{Numbers}
use Rattle.v_depends.specs.Orders.{row_of}
use Rattle.v_depends.proofs.ordering.rows_among.Given as goal

abbrev pub invariant-loop-assign : goal.invariant-loop-assign
invariant-loop-assign l = (names : List (List ℕ)) → Numbers l.numbers names → l.rows.items ≡ map (row_of names) (map assign_in (take l.assign-index l.assigns))

use Rattle.std.proofs.Common.{◌≡◌, ℕ, List, map, take}
use Rattle.v_depends.specs.Graphs.{Numbers}
use Rattle.v_depends.specs.Orders.{numbers_of}
use Rattle.v_depends.proofs.ordering.numbers_among.Given as goal

abbrev pub invariant-loop-read : goal.invariant-loop-read
invariant-loop-read l = (names : List (List ℕ)) → Numbers l.numbers names → l.row ≡ numbers_of names (map (λ n. n.now) (take l.read-index l.reads))

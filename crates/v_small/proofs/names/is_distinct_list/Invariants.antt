use Rattle.std.proofs.Common.{◌≡◌, ℕ, List, ◌∷◌, map, take, Bor}
use Rattle.v_syntax.specs.Small.{port_names}
use Rattle.v_small.proofs.names.is_distinct_list.Given as goal

abbrev pub invariant-loop-port : goal.invariant-loop-port
invariant-loop-port l = map (λ (n : Bor (List ℕ)). n.now) l.names.items ≡ l.clock.name ∷ port_names (take l.port-index l.ports)

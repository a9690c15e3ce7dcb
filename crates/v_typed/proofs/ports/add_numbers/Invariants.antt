use Rattle.std.proofs.Common.{◌≡◌, ◌++◌, map, take}
use Rattle.v_syntax.specs.declared.module.Declared.{Declared}
use Rattle.v_meaning.specs.Names.{entry_of}
use Rattle.v_core.specs.Values.{entry_at}
use Rattle.v_typed.proofs.ports.add_numbers.Given as goal

abbrev pub invariant-loop-port : goal.invariant-loop-port
invariant-loop-port l =
    map (entry_at l.names) l.numbers ≡ map (entry_at l.names) l.initial.numbers ++ map (λ (d : Declared). entry_of l.names d.name.name) (take l.port-index l.ports)

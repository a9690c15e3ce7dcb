use Rattle.std.proofs.Common.{take}
use Rattle.lz_base.specs.Names.{IsAmong}
use Rattle.v_syntax.specs.Small.{port_names}
use Rattle.v_small.proofs.names.is_port.Given as goal

abbrev pub invariant-loop-port : goal.invariant-loop-port
invariant-loop-port l = IsAmong l.name (port_names (take l.port-index l.ports)) → ⊥

use Rattle.std.proofs.Common.{take}
use Rattle.lz_base.specs.Names.{IsAmong}
use Rattle.v_syntax.specs.Small.{register_names}
use Rattle.v_small.proofs.names.is_register.Given as goal

abbrev pub invariant-loop-port : goal.invariant-loop-port
invariant-loop-port l = IsAmong l.name (register_names (take l.port-index l.ports)) → ⊥

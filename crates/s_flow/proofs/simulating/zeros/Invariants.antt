use Rattle.std.proofs.Common.{take}
use Rattle.lz_base.specs.Ports.{FitPorts}
use Rattle.s_flow.proofs.simulating.zeros.Given as goal

abbrev pub invariant-loop-port : goal.invariant-loop-port
invariant-loop-port l = FitPorts (take l.port-index l.ports) l.words.items

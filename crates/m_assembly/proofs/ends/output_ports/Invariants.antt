use Rattle.std.proofs.Common.{◌≡◌, ◌++◌, map, drop}
use Rattle.g_net.specs.AsMachine.{port_of}
use Rattle.m_assembly.proofs.ends.output_ports.Given as goal

abbrev pub invariant-loop-i : goal.invariant-loop-i
invariant-loop-i l = l.ports ++ map port_of (drop l.i l.network.outputs) ≡ map port_of l.network.outputs

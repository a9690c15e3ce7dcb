use Rattle.std.proofs.Common.{◌≡◌, take}
use Rattle.m_assembly.proofs.ends.input_ports.Given as goal

abbrev pub invariant-loop-input : goal.invariant-loop-input
invariant-loop-input l = l.ports ≡ take l.input-index l.inputs

use Rattle.std.proofs.Common.{◌≡◌, ◌++◌, drop}
use Rattle.m_valid.specs.Assembly.{after_outputs, output_nets}
use Rattle.m_assembly.proofs.ends.output_nets.Given as goal

abbrev pub invariant-loop-i : goal.invariant-loop-i
invariant-loop-i l = record {
  made : after_outputs l.draft (drop l.i l.network.outputs) ≡ after_outputs l.initial.draft l.network.outputs;
  nets : l.all ++ output_nets l.draft (drop l.i l.network.outputs) ≡ output_nets l.initial.draft l.network.outputs;
}

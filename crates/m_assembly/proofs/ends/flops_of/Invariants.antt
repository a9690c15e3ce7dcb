use Rattle.std.proofs.Common.{◌≡◌, ◌++◌, drop}
use Rattle.m_valid.specs.Assembly.{after_flips, flops_of}
use Rattle.m_assembly.proofs.ends.flops_of.Given as goal

abbrev pub invariant-loop-flip : goal.invariant-loop-flip
invariant-loop-flip l = record {
  made : after_flips l.draft (drop l.flip-index l.flips) ≡ after_flips l.initial.draft l.flips;
  flops : l.flops ++ flops_of l.draft (drop l.flip-index l.flips) ≡ flops_of l.initial.draft l.flips;
}

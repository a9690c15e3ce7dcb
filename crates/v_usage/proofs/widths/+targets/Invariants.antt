use Rattle.std.proofs.Common.{◌+◌}
use Rattle.v_syntax.specs.declared.stmt.Target.{Target}
use Rattle.v_usage.specs.Bits.{target_bits}
use Rattle.v_usage.proofs.Counting.{Counts}
use Rattle.v_usage.proofs.widths.+targets.Given as goal

abbrev pub invariant-targets_width-loop-target : goal.invariant-targets_width-loop-target
invariant-targets_width-loop-target l = Counts (λ (x : Target) m n. m + n) (target_bits l.names) l.targets l.target-index l.initial.all l.all

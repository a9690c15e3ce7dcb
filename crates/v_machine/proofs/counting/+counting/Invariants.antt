use Rattle.std.proofs.Common.{◌≡◌, ◌+◌, drop}
use Rattle.v_machine.specs.Executed.{arm_counts, write_counts}
use Rattle.v_machine.proofs.counting.+counting.Given as goal

abbrev pub invariant-all_writes-loop-one : goal.invariant-all_writes-loop-one
invariant-all_writes-loop-one l = l.counted + write_counts (drop l.one-index l.all) ≡ write_counts l.all

abbrev pub invariant-arms_writes-loop-arm : goal.invariant-arms_writes-loop-arm
invariant-arms_writes-loop-arm l = l.counted + arm_counts (drop l.arm-index l.arms) ≡ arm_counts l.arms

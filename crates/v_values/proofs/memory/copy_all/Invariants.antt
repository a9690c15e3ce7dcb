use Rattle.std.proofs.Common.{◌≡◌, take}
use Rattle.v_values.specs.Seen.{all_counts, all_widths}
use Rattle.v_values.proofs.memory.copy_all.Given as goal

abbrev pub invariant-loop-i : goal.invariant-loop-i
invariant-loop-i l = record {
  widths : all_widths l.to ≡ all_widths l.from;
  counts : all_counts l.to ≡ all_counts l.from;
  done : take l.i l.to ≡ take l.i l.from;
}

use Rattle.std.proofs.Common.{◌≡◌, take}
use Rattle.std.specs.Prelude.{replicate}
use Rattle.v_values.specs.Seen.{values_of, widths_of}
use Rattle.v_values.proofs.setting.clear.Given as goal

abbrev pub invariant-loop-i : goal.invariant-loop-i
invariant-loop-i l = record {
  values : values_of (take l.i l.words) ≡ replicate l.i 0;
  widths : widths_of l.words ≡ widths_of l.fn.words;
}

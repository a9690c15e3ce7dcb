use Rattle.std.proofs.Common.{◌≡◌, ◌++◌, length, take, drop}
use Rattle.v_meaning.specs.Designs.{total, words_from}
use Rattle.v_values.specs.Seen.{values_of, widths_of}
use Rattle.v_values.proofs.setting.put_bits.Given as goal

abbrev pub invariant-loop-i : goal.invariant-loop-i
invariant-loop-i l = record {
  bits : length l.left ≡ total (drop l.i (widths_of l.fn.words));
  values : values_of (take l.i l.words) ++ words_from (drop l.i (widths_of l.fn.words)) l.left ≡ words_from (widths_of l.fn.words) l.bits;
  widths : widths_of l.words ≡ widths_of l.fn.words;
}

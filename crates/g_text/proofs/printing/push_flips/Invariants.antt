use Rattle.std.proofs.Common.{◌≡◌, ◌++◌, take, flat_map}
use Rattle.lz_lines.specs.Fields.{Each}
use Rattle.g_text.specs.Form.{IsFlip}
use Rattle.g_text.specs.Text.{flip_line}
use Rattle.g_text.proofs.printing.push_flips.Given as goal

abbrev pub invariant-loop-flip : goal.invariant-loop-flip
invariant-loop-flip l = record {
  text : l.out.items ≡ l.initial.out.items ++ flat_map flip_line (take l.flip-index l.flips);
  small : Each IsFlip (take l.flip-index l.flips);
}

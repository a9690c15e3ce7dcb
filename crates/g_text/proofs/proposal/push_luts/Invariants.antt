use Rattle.std.proofs.Common.{◌≡◌, ◌++◌, drop, take, flat_map}
use Rattle.lz_lines.specs.Fields.{Each}
use Rattle.g_text.specs.Proposals.{HasTable, IsLut, lut_line}
use Rattle.g_text.proofs.proposal.push_luts.Given as goal

abbrev pub invariant-loop-line : goal.invariant-loop-line
invariant-loop-line l = record {
  text : l.out.items ≡ l.initial.out.items ++ flat_map lut_line (take l.line-index l.lines);
  fields : Each IsLut (take l.line-index l.lines);
  tables : Each HasTable (drop l.line-index l.lines);
}

use Rattle.std.proofs.Common.{◌≡◌, ◌≤◌, ◌-◌, ◌++◌, length, flat_map}
use Rattle.lz_lines.specs.Fields.{AllUpTo, AreNumbers, number}
use Rattle.lz_lines.specs.Forms.{EndNumbers}
use Rattle.lz_lines.proofs.Counted.{AreMore}
use Rattle.lz_lines.proofs.Forms.{After}
use Rattle.lz_lines.proofs.numbers.read_numbers.Given as goal

abbrev pub invariant-loop-left : goal.invariant-loop-left
invariant-loop-left l = record {
  few : length l.numbers.items ≤ l.high;
  small : AllUpTo l.most l.numbers.items;
  split : l.bytes ≡ flat_map number l.numbers.items ++ l.left;
  within : length l.left ≤ length l.bytes;
  after : After (AreNumbers l.low l.high l.most) (EndNumbers l.high) l.bytes (AreMore l.low l.high l.most l.numbers.items) l.left;
}

abbrev pub decreases-loop-left : goal.decreases-loop-left
decreases-loop-left l = l.high - length l.numbers.items

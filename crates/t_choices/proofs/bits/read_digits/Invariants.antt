use Rattle.std.proofs.Common.{◌≤◌, ◌-◌, length}
use Rattle.lz_lines.specs.Forms.{Anything}
use Rattle.lz_lines.proofs.Forms.{After}
use Rattle.t_choices.specs.Bits.{AnyBit, digit}
use Rattle.t_choices.specs.Repeated.{Exactly}
use Rattle.t_choices.proofs.Repeated.{StillCome}
use Rattle.t_choices.proofs.bits.read_digits.Given as goal

abbrev pub invariant-digits : goal.invariant-digits
invariant-digits l = record {
  few : length l.bits.items ≤ l.fn.count;
  after : After (Exactly digit AnyBit l.fn.count) Anything l.fn.bytes (StillCome digit AnyBit l.fn.count l.bits.items) l.left;
}

abbrev pub decreases-digits : goal.decreases-digits
decreases-digits l = l.fn.count - length l.bits.items

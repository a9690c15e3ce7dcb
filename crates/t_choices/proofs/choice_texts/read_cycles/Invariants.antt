use Rattle.std.proofs.Common.{◌≤◌, ◌-◌, length}
use Rattle.std.specs.Prelude.{codes}
use Rattle.lz_lines.specs.Forms.{Anything}
use Rattle.lz_lines.proofs.Forms.{After}
use Rattle.t_choices.specs.Bits.{HasBits}
use Rattle.t_choices.specs.ChoiceTexts.{choice_line}
use Rattle.t_choices.specs.Repeated.{Exactly}
use Rattle.t_choices.proofs.Repeated.{StillCome}
use Rattle.t_choices.proofs.choice_texts.read_cycles.Given as goal

abbrev pub invariant-cycles : goal.invariant-cycles
invariant-cycles l = record {
  few : length l.cycles.items ≤ l.fn.count;
  after : After (Exactly (choice_line (codes "cycle")) (HasBits l.fn.cycle_bits) l.fn.count) Anything l.fn.bytes (StillCome (choice_line (codes "cycle")) (HasBits l.fn.cycle_bits) l.fn.count l.cycles.items) l.left;
}

abbrev pub decreases-cycles : goal.decreases-cycles
decreases-cycles l = l.fn.count - length l.cycles.items

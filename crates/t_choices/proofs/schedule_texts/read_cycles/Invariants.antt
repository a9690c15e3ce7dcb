use Rattle.std.proofs.Common.{◌≡◌, ◌+◌, ◌-◌, ◌≤◌, length, flat_map}
use Rattle.lz_lines.specs.Forms.{Anything}
use Rattle.lz_lines.proofs.Forms.{After}
use Rattle.t_choices.specs.Places.{cycle_places}
use Rattle.t_choices.specs.ScheduleTexts.{AreProcesses, cycle_line}
use Rattle.t_choices.proofs.Repeated.{StillCome}
use Rattle.t_choices.proofs.WholeSchedules.{Cycles}
use Rattle.t_choices.proofs.schedule_texts.read_cycles.Given as goal

abbrev pub invariant-cycles : goal.invariant-cycles
invariant-cycles l = record {
  few : length l.cycles.items ≤ l.fn.count;
  sum : l.at + length l.left ≡ 11 + length l.fn.bytes;
  here : l.at ≡ 11 + length (flat_map cycle_line l.cycles.items);
  places : l.places.items ≡ cycle_places 11 l.cycles.items;
  after : After (Cycles l.fn.processes l.fn.count) Anything l.fn.bytes (StillCome cycle_line (AreProcesses l.fn.processes) l.fn.count l.cycles.items) l.left;
}

abbrev pub decreases-cycles : goal.decreases-cycles
decreases-cycles l = l.fn.count - length l.cycles.items

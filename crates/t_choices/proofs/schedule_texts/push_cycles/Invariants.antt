use Rattle.std.proofs.Common.{◌≡◌, ◌++◌, take, flat_map}
use Rattle.t_choices.specs.ScheduleTexts.{cycle_line}
use Rattle.t_choices.proofs.schedule_texts.push_cycles.Given as goal

abbrev pub invariant-loop-entries : goal.invariant-loop-entries
invariant-loop-entries l = l.out.items ≡ l.initial.out.items ++ flat_map cycle_line (take l.entries-index l.cycles)

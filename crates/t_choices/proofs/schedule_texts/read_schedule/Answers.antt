use Rattle.std.proofs.Common.{List, ℕ}
use Rattle.lz_base.specs.declared.rule.Rule.TheVariants.{S1}
use Rattle.lz_lines.proofs.Places.{unread_is, unread_only}
use Rattle.t_choices.specs.ScheduleTexts.{IsSchedule}
use Rattle.t_choices.proofs.schedule_texts.read_schedule.Goals as goal

pub returns-in-Err-clause-only : goal.returns-in-Err-clause-only
returns-in-Err-clause-only c schedule text = unread_only (IsSchedule c.args.processes c.args.cycles) S1 c.args.bytes.now c.in-Err.unread c.stop.result c.stop.ensures c.in-Err.ensures schedule text

pub returns-in-Err-clause-fault : goal.returns-in-Err-clause-fault
returns-in-Err-clause-fault c = unread_is (List (List ℕ)) (IsSchedule c.args.processes c.args.cycles) S1 c.args.bytes.now c.in-Err.unread c.stop.result c.stop.ensures c.in-Err.ensures

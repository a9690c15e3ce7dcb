use Rattle.v_run.proofs.Reached.{each_in_any_order}
use Rattle.v_run.proofs.law.every_schedule_shows_it.Goals as goal

pub returns-clause-by : goal.returns-clause-by
returns-clause-by c = λ d choices schedules stimulus one other a run. a.every schedules other (each_in_any_order schedules) run

pub returns-clause-text : goal.returns-clause-text
returns-clause-text c = λ d choices stimulus one other a b. a.every b.some.0 other (each_in_any_order b.some.0) b.some.2

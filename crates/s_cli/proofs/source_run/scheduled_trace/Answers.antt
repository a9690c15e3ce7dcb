use Rattle.s_cli.specs.SourceRun.{by_schedules}
use Rattle.s_cli.proofs.Traced.{run_stopped, run_traced, unrun}
use Rattle.s_cli.proofs.source_run.scheduled_trace.Goals as goal

pub returns-in-Err : goal.returns-in-Err
returns-in-Err c = λ a b d e is other last _. unrun (by_schedules e) a b d c.in-Err.stop (c.in-Err.ensures.readies a b d is other last)

pub returns-in-Err-trace_under : goal.returns-in-Err-trace_under
returns-in-Err-trace_under c = λ a b d e is other last scheduled.
    run_stopped a b d e _ _ _ c.in-Err-trace_under.stop (c.in-Ok.ensures.readies a b d is other last) (c.in-Err-trace_under.ensures e scheduled)

pub returns : goal.returns
returns c = λ a b d e is other last scheduled.
    let steps = c.in-Ok-trace_under.ensures e scheduled in
    run_traced (by_schedules e) a b d _ _ c.in-Ok-trace_under.trace.cycles _ c.in_ok-print_trace.field-0 (c.in-Ok.ensures.readies a b d is other last) steps.0 steps.1 c.in_ok-print_trace.ensures

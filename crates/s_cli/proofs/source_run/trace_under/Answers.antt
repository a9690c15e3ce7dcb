use Rattle.s_cli.proofs.Traced.{stepped}
use Rattle.s_cli.proofs.source_run.trace_under.Goals as goal

pub returns : goal.returns
returns c = λ bytes is.
    stepped _ _ _ _ _ c.in_ok-schedules.schedules c.trace_by.result c.len.ensures c.in_ok-schedules.ensures.schedules c.trace_by.ensures.runs c.trace_by.ensures.every c.trace_by.ensures.fault
    c.trace_by.ensures.refused bytes is

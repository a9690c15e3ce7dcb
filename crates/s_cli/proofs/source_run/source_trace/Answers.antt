use Rattle.s_cli.specs.SourceRun.{in_text_order}
use Rattle.s_cli.proofs.Traced.{run_traced, unrun}
use Rattle.std.proofs.Common.{inl, refl}
use Rattle.s_cli.proofs.source_run.source_trace.Goals as goal

pub returns-in-Err : goal.returns-in-Err
returns-in-Err c = λ a b d is other last. unrun in_text_order a b d c.in-Err.stop (c.in-Err.ensures.readies a b d is other last)

pub returns : goal.returns
returns c = λ a b d is other last.
    run_traced in_text_order a b d _ _ c.in_ok-trace.trace.cycles _ c.in_ok-print_trace.field-0 (c.in-Ok.ensures.readies a b d is other last) (c.in_ok-trace.ensures.runs, c.in_ok-trace.ensures.every) (inl refl)
    c.in_ok-print_trace.ensures

use Rattle.std.proofs.Common.{◌≡◌, ◌+◌, length, drop}
use Rattle.std.specs.Prelude.{filter}
use Rattle.v_core.specs.declared.modules.TypedProcess.{TypedProcess}
use Rattle.v_run.proofs.choosing.process_count.Given as goal

abbrev pub invariant-loop-process : goal.invariant-loop-process
invariant-loop-process l =
    l.count + length (filter (λ (p : TypedProcess). p.clocked) (drop l.process-index l.process-items)) ≡ length (filter (λ (p : TypedProcess). p.clocked) l.process-items)

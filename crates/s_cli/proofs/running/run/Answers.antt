use Rattle.std.specs.Prelude.{ℕ, take}
use Rattle.std.specs.Io.KnownBytes.{Appends}
use Rattle.s_cli.proofs.Reported.{done_reported, part_reported}
use Rattle.s_cli.proofs.running.run.Goals as goal

pub returns-clause-done : goal.returns-clause-done
returns-clause-done g c = done_reported (λ output _. Appends (g.O.Sink.written c.args.out.now) (g.O.Sink.written c.execute-status.new.out) output) _ _ _ _ _ _ _ _ _ _ _ c.execute-status.ensures.done c.report.ensures

pub returns-clause-part : goal.returns-clause-part
returns-clause-part g c =
    part_reported (λ output _. (sent : ℕ) × Appends (g.O.Sink.written c.args.out.now) (g.O.Sink.written c.execute-status.new.out) (take sent output)) _ _ _ _ _ _ _ _ _ _ _ c.execute-status.ensures.part c.report.ensures

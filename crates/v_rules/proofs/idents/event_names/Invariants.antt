use Rattle.std.proofs.Common.{◌≡◌, ◌++◌, drop}
use Rattle.v_rules.specs.Groups.{idents_in}
use Rattle.v_rules.proofs.Gathered.{events_in}
use Rattle.v_rules.proofs.idents.event_names.Given as goal

abbrev pub invariant-loop-process : goal.invariant-loop-process
invariant-loop-process l = idents_in l.idents.items ++ events_in (drop l.process-index l.process-items) ≡ events_in l.process-items

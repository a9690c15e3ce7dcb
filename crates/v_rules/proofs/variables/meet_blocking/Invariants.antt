use Rattle.std.proofs.Common.{[]}
use Rattle.lz_base.specs.Met.{Met}
use Rattle.v_rules.proofs.Shared.{SharedGoes}
use Rattle.v_rules.proofs.variables.meet_blocking.Given as goal

abbrev pub invariant-loop-process : goal.invariant-loop-process
invariant-loop-process l = Met l.initial.met [] → Met l.initial.shared [] → SharedGoes l.processes l.process-index l.met l.shared

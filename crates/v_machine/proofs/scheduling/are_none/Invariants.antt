use Rattle.std.proofs.Common.{◌≡◌, drop}
use Rattle.v_machine.specs.Walked.{are_none}
use Rattle.v_machine.proofs.scheduling.are_none.Given as goal

abbrev pub invariant-loop-steps : goal.invariant-loop-steps
invariant-loop-steps l = are_none (drop l.steps-index l.left) ≡ are_none l.left

use Rattle.std.proofs.Common.{◌≡◌, List, drop}
use Rattle.v_meaning.specs.declared.names.Entry.{Entry}
use Rattle.v_core.specs.Statements.{default_among}
use Rattle.v_machine.specs.Executed.{arms_in}
use Rattle.v_machine.proofs.cases.default_arm.Given as goal

abbrev pub invariant-loop-i : goal.invariant-loop-i
invariant-loop-i l = (names : List Entry) → default_among (arms_in (drop l.i l.arms)) names ≡ default_among (arms_in l.arms) names

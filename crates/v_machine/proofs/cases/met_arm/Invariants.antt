use Rattle.std.proofs.Common.{◌≡◌, drop}
use Rattle.v_meaning.specs.Acts.{Acts}
use Rattle.v_core.specs.Statements.{is_met_in, taken_in}
use Rattle.v_machine.specs.Executed.{arms_in}
use Rattle.v_machine.proofs.cases.met_arm.Given as goal

abbrev pub invariant-loop-i : goal.invariant-loop-i
invariant-loop-i l = (otherwise : Acts) →
    taken_in (is_met_in l.names l.now.view l.subject) (arms_in (drop l.i l.arms)) l.names otherwise
    ≡ taken_in (is_met_in l.names l.now.view l.subject) (arms_in l.arms) l.names otherwise

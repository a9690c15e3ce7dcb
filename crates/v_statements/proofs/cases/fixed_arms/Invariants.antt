use Rattle.std.proofs.Common.{length, List, map}
use Rattle.v_meaning.specs.declared.names.Entry.{Entry}
use Rattle.v_statements.specs.declared.cases.OpenArm.{OpenArm}
use Rattle.v_statements.specs.Cases.{comparison_in, arm_at, open_arm, typed_arm}
use Rattle.v_statements.specs.Forms.{arm_form, open_arm_form}
use Rattle.v_statements.specs.Sited.{is_sited_arm, is_sited_open_arm}
use Rattle.v_statements.proofs.Turns.{AreLeft}
use Rattle.v_statements.proofs.cases.fixed_arms.Given as goal

-- the arms that are left, and behind them those that are fixed
abbrev pub invariant-loop-arm : goal.invariant-loop-arm
invariant-loop-arm l =
    ((names : List Entry) → AreLeft (typed_arm names) (λ (o : OpenArm). arm_at (comparison_in l.by) (open_arm names o)) l.fixed.items l.left
    (map (λ (o : OpenArm). arm_at (comparison_in l.by) (open_arm names o)) l.initial.left))
    × ((names : List Entry) → AreLeft (arm_form names) (open_arm_form names l.by) l.fixed.items l.left (map (open_arm_form names l.by) l.initial.left))
    × AreLeft is_sited_arm is_sited_open_arm l.fixed.items l.left (map is_sited_open_arm l.initial.left)

abbrev pub decreases-loop-arm : goal.decreases-loop-arm
decreases-loop-arm l = length l.left

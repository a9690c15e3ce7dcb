use Rattle.std.proofs.Common.{◌≡◌, length}
use Rattle.v_core.specs.Bodies.{fixed_links, link_bodies}
use Rattle.v_core.specs.OpenForms.{fixed_forms, body_forms}
use Rattle.v_core.proofs.BodyLaws.{part_fixed}
use Rattle.v_core.specs.Sited.{are_sited_bodies}
use Rattle.v_core.proofs.OpenFormLaws.{part_formed}
use Rattle.v_core.proofs.SitedLaws.{part_sited}
use Rattle.v_core.proofs.fixing.+fixing.Given as goal

-- the operands that are left, and behind them those that are fixed
abbrev pub invariant-fix_links-loop-operator : goal.invariant-fix_links-loop-operator
invariant-fix_links-loop-operator l =
    goal.no_deeper-fix_links-loop-operator l
    × (part_fixed l.left l.fixed.items l.width l.signed ≡ fixed_links (link_bodies l.initial.left) l.width l.signed)
    × (part_formed l.left l.fixed.items l.width l.signed ≡ fixed_forms (body_forms l.initial.left) l.width l.signed)
    × (part_sited l.left l.fixed.items ≡ are_sited_bodies l.initial.left)

abbrev pub decreases-fix_links-loop-operator : goal.decreases-fix_links-loop-operator
decreases-fix_links-loop-operator l = length l.left

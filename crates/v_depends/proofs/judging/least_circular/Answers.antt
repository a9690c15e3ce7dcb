use Rattle.std.proofs.Common.{None, map, take}
use Rattle.v_uses.specs.declared.gathered.AssignUses.{AssignUses}
use Rattle.v_depends.specs.Pairs.{is_circular_by}
use Rattle.v_depends.proofs.Gathering.{from_next, targets_more}
use Rattle.v_depends.proofs.Least.{least_push}
use Rattle.v_depends.proofs.judging.least_circular.Goals as goal

pub loop-assign-preserved : goal.loop-assign-preserved
loop-assign-preserved c = λ names ds g s.
    let assigns = c.args.assigns.now in
    least_push None c.loop-assign.first c.in_ok-first.first (is_circular_by ds) (map (λ (a : AssignUses). a.target.now) (take c.loop-assign.assign-index assigns)) _ c.assign-item.result.target.now
    (from_next (map (λ (a : AssignUses). a.target.now)) targets_more assigns c.loop-assign.assign-index c.assign-item.result c.loop-assign-test.true c.assign-item.is)
    (c.loop-assign.invariant names ds g s) (c.in_ok-first.ensures names ds g s)

use Rattle.std.proofs.Common.{[], map, take}
use Rattle.v_uses.specs.Gathered.{assign_in}
use Rattle.v_depends.specs.Orders.{names_from}
use Rattle.v_depends.proofs.Orders.{next_target}
use Rattle.v_depends.proofs.ordering.target_numbers.Goals as goal

pub loop-assign-preserved : goal.loop-assign-preserved
loop-assign-preserved c =
    next_target c.number.new.numbers c.args.assigns.now c.loop-assign.assign-index c.assign-item.result c.bytes.result.now c.loop-assign-test.true c.assign-item.is c.bytes.ensures.value
    (c.in_ok-number.ensures (names_from [] (map assign_in (take c.loop-assign.assign-index c.args.assigns.now))) c.loop-assign.invariant).0

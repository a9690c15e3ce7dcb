use Rattle.v_uses.specs.Adding.{target_writes}
use Rattle.v_uses.proofs.Adding.{same_more, on_ok, each_next, each_ends}
use Rattle.v_uses.proofs.StmtAccesses.{name_bits, index_bits, bound_bits, writes_of_name, writes_of_select, writes_of_part, writes_of_concat}
use Rattle.v_uses.proofs.stmts.+targets.Goals as goal

pub add_target-returns-in-Name : goal.add_target-returns-in-Name
add_target-returns-in-Name t c = on_ok c.add_write.result (same_more (name_bits c.in-Name.name) (writes_of_name _ _ c.args.kind c.in-Name.is)) c.add_write.ensures

pub add_target-returns-in-Select : goal.add_target-returns-in-Select
add_target-returns-in-Select t c =
    on_ok c.add_write-in-Select.result (same_more (index_bits c.in-Select.name c.in-Select.index) (writes_of_select _ _ _ _ c.args.kind c.in-Select.is)) c.add_write-in-Select.ensures

pub add_target-returns-in-Part : goal.add_target-returns-in-Part
add_target-returns-in-Part t c =
    on_ok c.add_write-in-Part.result (same_more (bound_bits c.in-Part.name c.in-Part.range) (writes_of_part _ _ _ c.args.kind c.in-Part.is)) c.add_write-in-Part.ensures

pub add_target-returns-in-Concat : goal.add_target-returns-in-Concat
add_target-returns-in-Concat t c =
    on_ok c.add_targets.result (same_more (λ names. names) (writes_of_concat _ _ _ _ c.args.kind c.in-Concat.is c.as_slice.ensures)) c.add_targets.ensures

pub add_targets-loop-target-preserved : goal.add_targets-loop-target-preserved
add_targets-loop-target-preserved t c =
    each_next (λ names. target_writes (names, c.args.kind)) c.loop-target-test.true c.target-item.is c.in_ok-add_target.ensures c.loop-target.invariant

pub add_targets-returns : goal.add_targets-returns
add_targets-returns t c = each_ends (λ names. target_writes (names, c.args.kind)) c.loop-target-test.false c.loop-target.invariant

use Rattle.v_uses.specs.Adding.{index_reads}
use Rattle.v_uses.proofs.Adding.{none_more, same_more, on_ok, each_next, each_ends}
use Rattle.v_uses.proofs.StmtAccesses.{index_of_name, index_of_select, index_of_part, index_of_concat}
use Rattle.v_uses.proofs.stmts.+indices.Goals as goal

pub add_index-returns-in-Name : goal.add_index-returns-in-Name
add_index-returns-in-Name t c = none_more _ (index_of_name _ _ c.in-Name.is)

pub add_index-returns-in-Select : goal.add_index-returns-in-Select
add_index-returns-in-Select t c = on_ok c.add_expr.result (same_more (λ x. x.0) (index_of_select _ _ _ _ c.in-Select.is)) c.add_expr.ensures

pub add_index-returns-in-Part : goal.add_index-returns-in-Part
add_index-returns-in-Part t c = none_more _ (index_of_part _ _ _ c.in-Part.is)

pub add_index-returns-in-Concat : goal.add_index-returns-in-Concat
add_index-returns-in-Concat t c = on_ok c.add_indices.result (same_more (λ x. x) (index_of_concat _ _ _ _ c.in-Concat.is c.as_slice.ensures)) c.add_indices.ensures

pub add_indices-loop-target-preserved : goal.add_indices-loop-target-preserved
add_indices-loop-target-preserved t c = each_next index_reads c.loop-target-test.true c.target-item.is c.in_ok-add_index.ensures c.loop-target.invariant

pub add_indices-returns : goal.add_indices-returns
add_indices-returns t c = each_ends index_reads c.loop-target-test.false c.loop-target.invariant

use Rattle.v_scope.proofs.Adding.{same_end}
use Rattle.v_scope.proofs.StmtMarks.{when_items, when_default}
use Rattle.v_scope.proofs.stmts.add_label.Goals as goal

pub returns-in-Items : goal.returns-in-Items
returns-in-Items c = same_end c.add_items.result _ _ _ _ (when_items _ _ _ _ _ c.in-Items.is c.as_slice.ensures) c.add_items.ensures

pub returns-in-Default : goal.returns-in-Default
returns-in-Default c = same_end c.add_default.result _ _ _ _ (when_default _ _ _ _ c.in-Default.is) c.add_default.ensures

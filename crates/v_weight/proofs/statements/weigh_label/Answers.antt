use Rattle.v_weight.proofs.StmtLaws.{of_items, of_default}
use Rattle.v_weight.proofs.statements.weigh_label.Goals as goal

pub returns-in_ok-all-in-Items : goal.returns-in_ok-all-in-Items
returns-in_ok-all-in-Items c = of_items c.args.names.now c.args.label.now _ _ _ _ c.in-Items.is c.as_slice.ensures c.in_ok-all-in-Items.ensures

pub returns-in-Default : goal.returns-in-Default
returns-in-Default c = of_default c.args.names.now c.args.label.now _ _ c.in-Default.is

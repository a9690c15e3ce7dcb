use Rattle.v_uses.proofs.Adding.{none_more, same_more, on_ok}
use Rattle.v_uses.proofs.StmtAccesses.{items_read, default_reads}
use Rattle.v_uses.proofs.stmts.add_items.Goals as goal

pub returns-in-Items : goal.returns-in-Items
returns-in-Items c = on_ok c.add_exprs.result (same_more (λ names. names) (items_read c.args.arm.now _ _ c.in-Items.is c.as_slice.ensures)) c.add_exprs.ensures

pub returns-in-Default : goal.returns-in-Default
returns-in-Default c = none_more _ (default_reads c.args.arm.now _ c.in-Default.is)

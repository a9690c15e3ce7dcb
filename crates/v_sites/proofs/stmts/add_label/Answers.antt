use Rattle.v_sites.proofs.Adding.{none_more, same_more, on_ok}
use Rattle.v_sites.proofs.Sound.{items_sound}
use Rattle.v_sites.proofs.StmtSites.{when_items, when_default}
use Rattle.v_sites.proofs.stmts.add_label.Goals as goal

pub returns-in-Items : goal.returns-in-Items
returns-in-Items c =
    on_ok c.add_exprs.result (same_more (items_sound c.args.names.now c.args.label.now _ _ c.in-Items.is c.as_slice.ensures) (when_items c.args.names.now c.args.label.now _ _ c.in-Items.is c.as_slice.ensures)) c.add_exprs.ensures

pub returns-in-Default : goal.returns-in-Default
returns-in-Default c = none_more _ _ _ (λ h. when_default c.args.names.now c.args.label.now _ c.in-Default.is)

use Rattle.std.proofs.Common.{refl}
use Rattle.v_rules.proofs.Clocked.{none_next, some_found, none_found}
use Rattle.v_rules.proofs.checking.is_clocked.Goals as goal

pub loop-item-init : goal.loop-item-init
loop-item-init c names = record { same = refl }

pub loop-item-preserved : goal.loop-item-preserved
loop-item-preserved c names = none_next names _ _ _ _ _ c.loop-item-test.true c.item-item.is c.is_combinational.ensures c.if-is_combinational.false (c.loop-item.invariant names)

pub returns-then-is_combinational : goal.returns-then-is_combinational
returns-then-is_combinational c names =
    some_found names c.args.module.now _ _ _ _ _ c.as_slice-item-items.ensures c.loop-item-test.true c.item-item.is c.is_combinational.ensures c.if-is_combinational.true (c.loop-item.invariant names)

pub returns : goal.returns
returns c names = none_found names c.args.module.now _ _ c.as_slice-item-items.ensures c.loop-item-test.false (c.loop-item.invariant names)

use Rattle.v_statements.proofs.OpenLaws.{item_behind, items_behind}
use Rattle.v_statements.proofs.cases.with_items.Goals as goal

pub loop-item-preserved : goal.loop-item-preserved
loop-item-preserved c = λ names.
    item_behind names c.args.items.now _ _ c.loop-item.all _ _ c.loop-item-test.true c.item-item.is c.with_item-all.ensures.width c.with_item-all.ensures.signed (c.loop-item.invariant names)

pub returns : goal.returns
returns c = λ names. items_behind names c.args.items.now _ c.loop-item.all _ c.loop-item-test.false (c.loop-item.invariant names)

use Rattle.v_meaning.specs.Proper.{is_sound}
use Rattle.v_typing.specs.Sited.{IsRead}
use Rattle.v_statements.specs.declared.items.OpenItem.{OpenItem}
use Rattle.v_statements.specs.Forms.{ItemFormed}
use Rattle.v_statements.specs.Sited.{is_sited_open_item}
use Rattle.v_statements.proofs.FormLaws.{all_push, each_push}
use Rattle.v_statements.proofs.ReadLaws.{this_one}
use Rattle.v_statements.proofs.Turns.{one_of, one_same, all_same}
use Rattle.v_statements.proofs.items.opened_items.Goals as goal

pub opened_item-requires : goal.opened_item-requires
opened_item-requires c = record { sound = one_of (is_sound c.args.names.now) c.args.items.now _ _ c.loop-item-test.true c.item-item.is c.requires.sound }

pub loop-item-preserved : goal.loop-item-preserved
loop-item-preserved c = (
  one_same _ _ c.loop-item.all _ c.args.items.now _ _ _ c.loop-item-test.true c.item-item.is c.in_ok-push.ensures.ok c.in_ok-one.ensures.value c.loop-item.invariant.0,
  each_push (ItemFormed c.args.names.now) c.loop-item.all _ _ c.in_ok-push.ensures.ok c.in_ok-one.ensures.form c.loop-item.invariant.1,
  λ widths read.
      all_push (λ (o : OpenItem). is_sited_open_item o c.args.names.now widths) c.loop-item.all _ _ c.in_ok-push.ensures.ok
      (c.in_ok-one.ensures.sited widths (this_one (IsRead widths c.args.sites.now c.args.names.now) c.args.items.now _ _ c.loop-item-test.true c.item-item.is read)) (c.loop-item.invariant.2 widths read),
)

pub returns-clause-value : goal.returns-clause-value
returns-clause-value c = all_same _ _ c.loop-item.all c.args.items.now _ c.loop-item-test.false c.loop-item.invariant.0

pub returns-clause-form : goal.returns-clause-form
returns-clause-form c = c.loop-item.invariant.1

pub returns-clause-sited : goal.returns-clause-sited
returns-clause-sited c = c.loop-item.invariant.2

use Rattle.std.proofs.Common.{sym, ◌∙◌}
use Rattle.v_statements.specs.declared.items.OpenItem.{OpenItem}
use Rattle.v_statements.specs.Cases.{comparison_in, item_at, open_item, typed_item}
use Rattle.v_statements.specs.Forms.{item_form, open_item_form}
use Rattle.v_statements.specs.Sited.{is_sited_item, is_sited_open_item}
use Rattle.v_statements.proofs.Turns.{last_left, none_left}
use Rattle.v_statements.proofs.OpenLaws.{twice}
use Rattle.v_statements.proofs.items.fixed_items.Goals as goal

pub loop-item-preserved : goal.loop-item-preserved
loop-item-preserved c = (
  λ names.
      last_left (typed_item names) (λ (o : OpenItem). item_at (comparison_in c.args.by) (open_item names o)) c.loop-item.fixed.items _ _ _ _ _ _ c.in-Some.ensures c.in_ok-push.ensures.items
      (c.in_ok-one.ensures.value names) (c.loop-item.invariant.0 names),
  λ names. last_left (item_form names) (open_item_form names c.args.by) c.loop-item.fixed.items _ _ _ _ _ _ c.in-Some.ensures c.in_ok-push.ensures.items (c.in_ok-one.ensures.form names) (c.loop-item.invariant.1 names),
  last_left is_sited_item is_sited_open_item c.loop-item.fixed.items _ _ _ _ _ _ c.in-Some.ensures c.in_ok-push.ensures.items c.in_ok-one.ensures.sited c.loop-item.invariant.2,
)

pub returns-clause-value : goal.returns-clause-value
returns-clause-value c = λ names.
    none_left (typed_item names) (λ (o : OpenItem). item_at (comparison_in c.args.by) (open_item names o)) c.loop-item.fixed.items _ _ _ c.in_default.ensures.0
    (c.from_vec.ensures ∙ c.reverse.ensures.items) (c.loop-item.invariant.0 names)
    ∙ sym (twice (item_at (comparison_in c.args.by)) (open_item names) c.args.items)

pub returns-clause-form : goal.returns-clause-form
returns-clause-form c = λ names.
    none_left (item_form names) (open_item_form names c.args.by) c.loop-item.fixed.items _ _ _ c.in_default.ensures.0 (c.from_vec.ensures ∙ c.reverse.ensures.items) (c.loop-item.invariant.1 names)

pub returns-clause-sited : goal.returns-clause-sited
returns-clause-sited c =
    none_left is_sited_item is_sited_open_item c.loop-item.fixed.items _ _ _ c.in_default.ensures.0 (c.from_vec.ensures ∙ c.reverse.ensures.items) c.loop-item.invariant.2

use Rattle.v_meaning.specs.Proper.{is_sound}
use Rattle.v_meaning.specs.Sites.{sites_of}
use Rattle.v_sites.specs.Adding.{link_sites, is_sound_link}
use Rattle.v_sites.proofs.Adding.{none_more, same_more, then_more, three_more, on_ok, each_next, each_ends}
use Rattle.v_sites.proofs.Sound.{number_sound, index_sound, unary_sound, cast_sound, condition_sound, then_sound, otherwise_sound, head_sound, links_are_sound, parts_sound, copies_sound}
use Rattle.v_sites.proofs.ExprSites.{when_number, when_name, when_select, when_part, when_unary, when_cast, when_chain, when_conditional, when_concat, when_replicate}
use Rattle.v_sites.proofs.exprs.+expressions.Goals as goal

pub add_expr-returns-in-Number : goal.add_expr-returns-in-Number
add_expr-returns-in-Number t c = on_ok c.add_number.result (same_more (number_sound c.args.names.now c.args.x.now _ c.in-Number.is) (when_number c.args.names.now c.args.x.now _ c.in-Number.is)) c.add_number.ensures

pub add_expr-returns-in-Name : goal.add_expr-returns-in-Name
add_expr-returns-in-Name t c = none_more _ _ _ (λ h. when_name c.args.names.now c.args.x.now _ c.in-Name.is)

pub add_expr-returns-in_ok-add_select-in-Select : goal.add_expr-returns-in_ok-add_select-in-Select
add_expr-returns-in_ok-add_select-in-Select t c =
    let sound = index_sound c.args.names.now c.args.x.now _ _ _ _ c.in-Select.is c.get-index.ensures in
    on_ok c.add_expr.result (then_more sound sound (when_select c.args.names.now c.args.x.now _ _ _ _ c.in-Select.is c.get-index.ensures) c.in_ok-add_select-in-Select.ensures) c.add_expr.ensures

pub add_expr-returns-in-Part : goal.add_expr-returns-in-Part
add_expr-returns-in-Part t c = none_more _ _ _ (λ h. when_part c.args.names.now c.args.x.now _ _ _ _ _ _ c.in-Part.is)

pub add_expr-returns-in-Unary : goal.add_expr-returns-in-Unary
add_expr-returns-in-Unary t c =
    on_ok c.add_expr-in-Unary.result (same_more (unary_sound c.args.names.now c.args.x.now _ _ _ c.in-Unary.is c.get.ensures) (when_unary c.args.names.now c.args.x.now _ _ _ c.in-Unary.is c.get.ensures)) c.add_expr-in-Unary.ensures

pub add_expr-returns-in_ok-add_expr-in-Chain : goal.add_expr-returns-in_ok-add_expr-in-Chain
add_expr-returns-in_ok-add_expr-in-Chain t c =
    on_ok c.add_links.result
    (then_more (head_sound c.args.names.now c.args.x.now _ _ _ c.in-Chain.is c.get-in-Chain.ensures) (links_are_sound c.args.names.now c.args.x.now _ _ _ c.in-Chain.is c.as_slice.ensures)
    (when_chain c.args.names.now c.args.x.now _ _ _ _ c.in-Chain.is c.get-in-Chain.ensures c.as_slice.ensures) c.in_ok-add_expr-in-Chain.ensures)
    c.add_links.ensures

pub add_expr-returns-in_ok-add_expr-in-Conditional-2 : goal.add_expr-returns-in_ok-add_expr-in-Conditional-2
add_expr-returns-in_ok-add_expr-in-Conditional-2 t c =
    on_ok c.add_expr-in-Conditional-3.result
    (three_more (condition_sound c.args.names.now c.args.x.now _ _ _ _ c.in-Conditional.is c.get-in-Conditional.ensures) (then_sound c.args.names.now c.args.x.now _ _ _ _ c.in-Conditional.is c.get-in-Conditional-2.ensures)
    (otherwise_sound c.args.names.now c.args.x.now _ _ _ _ c.in-Conditional.is c.get-in-Conditional-3.ensures)
    (when_conditional c.args.names.now c.args.x.now _ _ _ _ _ _ c.in-Conditional.is c.get-in-Conditional.ensures c.get-in-Conditional-2.ensures c.get-in-Conditional-3.ensures)
    c.in_ok-add_expr-in-Conditional.ensures c.in_ok-add_expr-in-Conditional-2.ensures)
    c.add_expr-in-Conditional-3.ensures

pub add_expr-returns-in-Concat : goal.add_expr-returns-in-Concat
add_expr-returns-in-Concat t c =
    on_ok c.add_exprs.result (same_more (parts_sound c.args.names.now c.args.x.now _ _ _ c.in-Concat.is c.as_slice-in-Concat.ensures) (when_concat c.args.names.now c.args.x.now _ _ _ c.in-Concat.is c.as_slice-in-Concat.ensures))
    c.add_exprs.ensures

pub add_expr-returns-in-Replicate : goal.add_expr-returns-in-Replicate
add_expr-returns-in-Replicate t c =
    on_ok c.add_exprs-in-Replicate.result
    (same_more (copies_sound c.args.names.now c.args.x.now _ _ _ _ _ _ c.in-Replicate.is c.as_slice-in-Replicate.ensures) (when_replicate c.args.names.now c.args.x.now _ _ _ _ _ _ c.in-Replicate.is c.as_slice-in-Replicate.ensures))
    c.add_exprs-in-Replicate.ensures

pub add_expr-returns-in-Cast : goal.add_expr-returns-in-Cast
add_expr-returns-in-Cast t c =
    on_ok c.add_expr-in-Cast.result (same_more (cast_sound c.args.names.now c.args.x.now _ _ _ c.in-Cast.is c.get-in-Cast.ensures) (when_cast c.args.names.now c.args.x.now _ _ _ c.in-Cast.is c.get-in-Cast.ensures))
    c.add_expr-in-Cast.ensures

pub add_links-loop-operand-preserved : goal.add_links-loop-operand-preserved
add_links-loop-operand-preserved t c =
    each_next (is_sound_link c.args.names.now) (link_sites c.args.names.now) c.loop-operand-test.true c.loop-operand-item.is c.in_ok-add_expr.ensures c.loop-operand.invariant

pub add_links-returns : goal.add_links-returns
add_links-returns t c = each_ends (is_sound_link c.args.names.now) (link_sites c.args.names.now) c.loop-operand-test.false c.loop-operand.invariant

pub add_exprs-loop-x-preserved : goal.add_exprs-loop-x-preserved
add_exprs-loop-x-preserved t c = each_next (is_sound c.args.names.now) (sites_of c.args.names.now) c.loop-x-test.true c.x-item.is c.in_ok-add_expr.ensures c.loop-x.invariant

pub add_exprs-returns : goal.add_exprs-returns
add_exprs-returns t c = each_ends (is_sound c.args.names.now) (sites_of c.args.names.now) c.loop-x-test.false c.loop-x.invariant

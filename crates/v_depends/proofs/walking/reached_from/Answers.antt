use Rattle.std.proofs.Common.{◌<◌, length, false, ap, ◌∙◌, arith}
use Rattle.std.proofs.lemmas.List.{get_or_read, length-replicate}
use Rattle.v_depends.specs.Nodes.{row}
use Rattle.v_depends.proofs.Walks.{marked_begin, walks_begin, walks_next}
use Rattle.v_depends.proofs.walking.reached_from.Goals as goal

pub loop-next-init : goal.loop-next-init
loop-next-init c =
    let begin = marked_begin _ (length c.args.rows.now) c.in_ok-none.ensures c.new.ensures.items in
    walks_begin c.args.rows.now c.args.starts.now c.reach_all.new.reached _ _ (c.in_ok-reach_all.ensures.marked begin) c.in_ok-reach_all.ensures.long
    (ap length c.in_ok-none.ensures ∙ length-replicate (length c.args.rows.now) false) c.new.ensures.items (c.in_ok-reach_all.ensures.adds begin)

pub loop-next-preserved : goal.loop-next-preserved
loop-next-preserved c =
    let order = c.loop-next.reached.order in
    let walks = c.loop-next.invariant in
    let within : c.loop-next.next < length order.items = omega (arith, c.loop-next-test.true, c.len.ensures, order.ok.0) in
    walks_next c.args.rows.now c.args.starts.now c.loop-next.reached c.reach_all-in-loop-next.new.reached c.loop-next.next 0 c.row_of.result.now within
    (c.row_of.ensures ∙ ap (row c.args.rows.now) (get_or_read order.items c.loop-next.next _ within c.index-node.ensures 0)) (c.in_ok-reach_all-2.ensures.marked walks.marked)
    c.in_ok-reach_all-2.ensures.long (c.in_ok-reach_all-2.ensures.adds walks.marked) walks

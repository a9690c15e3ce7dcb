use Rattle.std.proofs.Common.{◌≤◌, ◌<◌, ℕ, List, length, ap, ◌∙◌, arith}
use Rattle.std.proofs.lemmas.List.{get_or_read}
use Rattle.v_depends.specs.Nodes.{row}
use Rattle.v_depends.proofs.TurnByTurn.{progress_next, progress_end}
use Rattle.v_depends.proofs.turns.all_turns.Goals as goal

pub loop-next-preserved : goal.loop-next-preserved
loop-next-preserved c =
    let order = c.loop-next.turns.reached.order in
    let p = c.loop-next.invariant in
    let within : c.loop-next.next < length order.items = omega (arith, c.loop-next-test.true, c.len.ensures, order.ok.0) in
    progress_next c.args.rows.now c.in_ok-waiting.waiting.items c.loop-next.turns c.advance_all-in-loop-next.new.turns c.loop-next.next c.row_of.result.now within
    (c.row_of.ensures ∙ ap (λ (l : List (List ℕ)). row l c.index-node.result.now) c.as_slice-in-loop-next.ensures.value
    ∙ ap (row c.in_ok-waiting.waiting.items) (get_or_read order.items c.loop-next.next _ within c.index-node.ensures 0))
    c.in_ok-waiting.ensures (c.in_ok-advance_all-2.ensures p.now) p

pub returns : goal.returns
returns c =
    let order = c.loop-next.turns.reached.order in
    let done : length order.items ≤ c.loop-next.next = omega (arith, c.loop-next-test.false, c.len.ensures, order.ok.0) in
    progress_end c.args.rows.now c.loop-next.turns c.loop-next.next done c.loop-next.invariant

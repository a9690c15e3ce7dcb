use Rattle.std.proofs.Common.{length, sym, ◌∙◌, inr}
use Rattle.v_depends.proofs.Walks.{adds_one, marked_more}
use Rattle.v_depends.proofs.walking.reach.Goals as goal

pub returns-in_ok-push-clause-marked : goal.returns-in_ok-push-clause-marked
returns-in_ok-push-clause-marked c = λ m.
    let new = c.lacks.ensures.unmarked c.if-lacks.true in
    marked_more c.args.reached.now _ c.args.node new.0 new.1 c.mark.ensures c.in_ok-push.ensures.items m

pub returns-in_ok-push-clause-adds : goal.returns-in_ok-push-clause-adds
returns-in_ok-push-clause-adds c = λ m. adds_one (length c.args.reached.now.marks) c.args.node c.args.reached.now.order.items _ c.in_ok-push.ensures.items

pub returns-in_ok-push-clause-once : goal.returns-in_ok-push-clause-once
returns-in_ok-push-clause-once c = λ m. inr (sym (m.same c.args.node) ∙ (c.lacks.ensures.unmarked c.if-lacks.true).1, c.in_ok-push.ensures.items)

use Rattle.std.proofs.Common.{◌≤◌, ◌<◌, length, slice_index, sym, ap, subst, ◌∙◌}
use Rattle.std.proofs.lemmas.Bool.{leb-true, leb-false}
use Rattle.v_depends.proofs.TurnByTurn.{all_come, one_missing}
use Rattle.v_depends.proofs.turns.has_passed.Goals as goal

pub returns-clause-all : goal.returns-clause-all
returns-clause-all c = λ rows is t full.
    let from = c.passed_of-from.ensures ∙ ap (λ l. slice_index l c.args.node) c.as_slice.ensures.value in
    all_come rows c.args.turns.now c.args.node c.next_missing-at.result c.args.needed.now is (λ k least below. c.next_missing-at.ensures.passes k (subst (λ n. n ≤ k) (sym from) least) below) t
    (leb-true (length c.args.needed.now) c.next_missing-at.result full)

pub returns-clause-some : goal.returns-clause-some
returns-clause-some c = λ rows is t out.
    let from = c.passed_of-from.ensures ∙ ap (λ l. slice_index l c.args.node) c.as_slice.ensures.value in
    let within : c.next_missing-at.result < length c.args.needed.now = leb-false (length c.args.needed.now) c.next_missing-at.result out in
    one_missing rows c.args.turns.now c.args.node c.next_missing-at.result c.args.needed.now is (λ k least below. c.next_missing-at.ensures.passes k (subst (λ n. n ≤ k) (sym from) least) below) t within
    (c.next_missing-at.ensures.stops within)

use Rattle.std.proofs.Common.{List, ℕ, refl, ap, subst}
use Rattle.v_depends.specs.declared.walking.Reached.{Reached}
use Rattle.v_depends.specs.Turning.{Lacks}
use Rattle.v_depends.proofs.TurnByTurn.{advanced, stalled}
use Rattle.v_depends.proofs.turns.advance.Goals as goal

pub returns-in_ok-reach : goal.returns-in_ok-reach
returns-in_ok-reach c = λ t.
    let rows = c.args.rows.now in
    let e = c.in_ok-reach.ensures in
    advanced rows c.args.turns.now c.has_passed.new.turns (record { reached = c.reach.new.reached; passed = c.has_passed.new.turns.passed }) c.args.node c.row_of.result.now c.row_of.ensures c.has_passed.ensures.same
    (c.has_passed.ensures.turns rows c.row_of.ensures t) (c.has_passed.ensures.all rows c.row_of.ensures t c.if-has_passed.true) refl e.marked e.long e.adds e.once

pub returns-else-has_passed : goal.returns-else-has_passed
returns-else-has_passed c = λ t.
    let rows = c.args.rows.now in
    let before = c.args.turns.now.reached.order.items in
    stalled rows c.has_passed.new.turns c.args.node before (c.has_passed.ensures.turns rows c.row_of.ensures t) (ap (λ (r : Reached). r.order.items) c.has_passed.ensures.same)
    (subst (λ (l : List ℕ). Lacks l before) c.row_of.ensures (c.has_passed.ensures.some rows c.row_of.ensures t c.if-has_passed.false))

use Rattle.std.proofs.Common.{sym, ◌∙◌, arith}
use Rattle.v_machine.proofs.Walking.{counted_whole, short_behind, short_here, walked_on}
use Rattle.v_machine.proofs.scheduling.short_entry.Goals as goal

pub returns-then-steps-eq0-clause-short : goal.returns-then-steps-eq0-clause-short
returns-then-steps-eq0-clause-short c =
    short_here c.args.left.now c.args.schedule.now c.loop-i.left c.loop-i.i 0 (omega arith) (sym c.steps_left-steps.ensures ∙ c.if-steps-eq0.true) c.loop-i.invariant

pub loop-i-preserved : goal.loop-i-preserved
loop-i-preserved c =
    walked_on c.args.left.now c.args.schedule.now c.loop-i.left c.loop-i.i 0 c.steps_left-steps.result (omega arith) c.steps_left-steps.ensures c.if-steps-eq0.false
    c.loop-i.invariant

pub returns-then-are_none-clause-counted : goal.returns-then-are_none-clause-counted
returns-then-are_none-clause-counted c =
    counted_whole c.args.left.now c.args.schedule.now c.loop-i.left c.loop-i.i (omega arith) c.loop-i.invariant (sym c.are_none.ensures ∙ c.if-are_none.true)

pub returns-else-are_none-clause-short : goal.returns-else-are_none-clause-short
returns-else-are_none-clause-short c =
    short_behind c.args.left.now c.args.schedule.now c.loop-i.left c.loop-i.i (omega arith) c.loop-i.invariant (sym c.are_none.ensures ∙ c.if-are_none.false)

use Rattle.std.proofs.Common.{◌^◌, List, ℕ, length, Some, subst, ap, ◌∙◌, arith}
use Rattle.n_cells.specs.Run.{table_bit}
use Rattle.m_valid.specs.Validity.{agree, is_covered, has_table}
use Rattle.m_valid.specs.Walk.{IsCone}
use Rattle.m_valid.proofs.Judging.{line_holds, table_agrees, wrong_on}
use Rattle.m_valid.proofs.Turns.{ready_at}
use Rattle.m_valid.proofs.cones.walk_lines.Goals as goal

pub loop-i-preserved : goal.loop-i-preserved
loop-i-preserved c =
    let nodes = c.args.nodes.now in
    let l = c.index-lines-i.result in
    let ready = ready_at (length nodes) c.args.lines.now c.loop-i.i l c.requires.ready c.loop-i-test.true c.index-lines-i.is in
    let cone : IsCone nodes l (Some c.in-Some.table) = subst (IsCone nodes l) c.in-Some.is c.in_ok-cone.ensures.cone in
    let holds = c.same_table-holds.ensures ∙ ap (λ (xs : List ℕ). agree (2 ^ length xs) (table_bit c.in-Some.table) (table_bit l.table)) c.as_slice.ensures ∙ table_agrees nodes l c.in-Some.table ready.few cone.1 in
    record {
      unmarked = λ later k before. c.cone.ensures.later later k before (c.loop-i.invariant.unmarked later k (omega (arith, before)));
      covered = line_holds (is_covered nodes) c.args.lines.now c.loop-i.i l _ c.loop-i-test.true c.index-lines-i.is cone.0 c.loop-i.invariant.covered;
      first = wrong_on (has_table nodes) c.args.lines.now c.loop-i.i l c.loop-i.wrong c.first_wrong-wrong.result c.same_table-holds.result _ c.loop-i-test.true c.index-lines-i.is holds c.first_wrong-wrong.ensures c.loop-i.invariant.first;
    }

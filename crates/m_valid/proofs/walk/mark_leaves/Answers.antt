use Rattle.std.proofs.Common.{◌<◌, arith}
use Rattle.m_valid.specs.Walk.{known}
use Rattle.m_valid.proofs.Paths.{leaf_before, leaves_begin, leaves_all}
use Rattle.m_valid.proofs.walk.mark_leaves.Goals as goal

pub loop-j-init : goal.loop-j-init
loop-j-init c = record {
  within = omega arith;
  tables = λ k. leaves_begin c.args.leaves.now _ k _ (omega arith) (c.requires.unmarked k);
  later = λ later k before none. none;
}

pub loop-j-preserved : goal.loop-j-preserved
loop-j-preserved c =
    let some : 0 < c.loop-j.j = c.loop-j-test.true in
    record {
      within = omega (arith, c.loop-j.invariant.within);
      tables = leaf_before (known c.loop-j.marks c.args.line) (known c.leave_mark.new.marks c.args.line) c.args.leaves.now c.loop-j.j c.leaf_table.result some c.loop-j.invariant.within c.loop-j.invariant.tables
          c.leave_mark.ensures.here c.leave_mark.ensures.others c.leaf_table.ensures;
      later = λ later k before none. c.leave_mark.ensures.later later k before (c.loop-j.invariant.later later k before none);
    }

pub returns-clause-tables : goal.returns-clause-tables
returns-clause-tables c = λ k. leaves_all c.args.leaves.now c.loop-j.j k _ c.loop-j-test.false (c.loop-j.invariant.tables k)

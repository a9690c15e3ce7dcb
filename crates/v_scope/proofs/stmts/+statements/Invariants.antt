use Rattle.v_meaning.specs.Marks.{stmt_marks}
use Rattle.v_scope.proofs.Adding.{Each}
use Rattle.v_scope.proofs.StmtMarks.{EachArm}
use Rattle.v_scope.proofs.stmts.+statements.Given as goal

abbrev pub invariant-add_stmts-loop-statement : goal.invariant-add_stmts-loop-statement
invariant-add_stmts-loop-statement l = Each stmt_marks l.statements l.statement-index l.initial.all.items l.all.items

abbrev pub invariant-add_arms-loop-arm : goal.invariant-add_arms-loop-arm
invariant-add_arms-loop-arm l = EachArm l.kind l.arms l.arm-index l.met l.initial.all.items l.all.items

use Rattle.v_meaning.specs.ConstantRules.{stmt_faults}
use Rattle.v_declare.specs.Faults.{arm_faults}
use Rattle.v_declare.proofs.Walking.{Left}
use Rattle.v_declare.proofs.faults.+statements.Given as goal

abbrev pub invariant-judge_stmts-loop-statement : goal.invariant-judge_stmts-loop-statement
invariant-judge_stmts-loop-statement l = Left (stmt_faults l.names) l.statements l.statement-index

abbrev pub invariant-judge_arms-loop-arm : goal.invariant-judge_arms-loop-arm
invariant-judge_arms-loop-arm l = Left (arm_faults l.names) l.arms l.arm-index

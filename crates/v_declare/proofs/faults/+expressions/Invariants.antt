use Rattle.v_meaning.specs.ConstantRules.{expr_faults}
use Rattle.v_declare.specs.Faults.{link_faults}
use Rattle.v_declare.proofs.Walking.{Left}
use Rattle.v_declare.proofs.faults.+expressions.Given as goal

abbrev pub invariant-judge_links-loop-operand : goal.invariant-judge_links-loop-operand
invariant-judge_links-loop-operand l = Left (link_faults l.names) l.links l.operand-index

abbrev pub invariant-judge_exprs-loop-x : goal.invariant-judge_exprs-loop-x
invariant-judge_exprs-loop-x l = Left (expr_faults l.names) l.exprs l.x-index

use Rattle.v_syntax.specs.declared.stmt.Arm.{Arm}
use Rattle.v_meaning.specs.Declarations.{target_names}
use Rattle.v_declare.proofs.Written.{Each}
use Rattle.v_declare.proofs.roles.+statements.Given as goal

abbrev pub invariant-meet_stmts-loop-statement : goal.invariant-meet_stmts-loop-statement
invariant-meet_stmts-loop-statement l = Each target_names l.statements l.statement-index l.initial.met l.met

abbrev pub invariant-meet_arms-loop-arm : goal.invariant-meet_arms-loop-arm
invariant-meet_arms-loop-arm l = Each (λ (arm : Arm). target_names arm.body) l.arms l.arm-index l.initial.met l.met

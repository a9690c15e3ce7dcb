use Rattle.v_uses.specs.Adding.{accessed, accesses_of, body_accesses}
use Rattle.v_uses.proofs.Adding.{Each}
use Rattle.v_uses.proofs.stmts.+statements.Given as goal

abbrev pub invariant-add_stmts-loop-statement : goal.invariant-add_stmts-loop-statement
invariant-add_stmts-loop-statement l = Each accessed accesses_of l.statements l.statement-index l.initial.all l.all

abbrev pub invariant-add_bodies-loop-arm : goal.invariant-add_bodies-loop-arm
invariant-add_bodies-loop-arm l = Each accessed body_accesses l.arms l.arm-index l.initial.all l.all

use Rattle.v_meaning.specs.Sites.{stmt_sites}
use Rattle.v_typing.specs.Sound.{is_sound_stmt}
use Rattle.v_sites.specs.Adding.{arm_sites, is_sound_arm}
use Rattle.v_sites.proofs.Adding.{Each}
use Rattle.v_sites.proofs.stmts.+statements.Given as goal

abbrev pub invariant-add_stmts-loop-statement : goal.invariant-add_stmts-loop-statement
invariant-add_stmts-loop-statement l = Each (is_sound_stmt l.names) (stmt_sites l.names) l.statements l.statement-index l.initial.found l.found

abbrev pub invariant-add_arms-loop-arm : goal.invariant-add_arms-loop-arm
invariant-add_arms-loop-arm l = Each (is_sound_arm l.names) (arm_sites l.names) l.arms l.arm-index l.initial.found l.found

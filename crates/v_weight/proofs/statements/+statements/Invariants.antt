use Rattle.std.proofs.Common.{ℕ}
use Rattle.v_syntax.specs.declared.stmt.Arm.{Arm}
use Rattle.v_meaning.specs.Weights.{stmt_weight}
use Rattle.v_typing.specs.Sound.{is_sound_stmt}
use Rattle.v_weight.specs.Statements.{is_sound_arm}
use Rattle.v_weight.proofs.StmtLaws.{SumsIn}
use Rattle.v_weight.proofs.statements.+statements.Given as goal

abbrev pub invariant-weigh_arms-loop-arm : goal.invariant-weigh_arms-loop-arm
invariant-weigh_arms-loop-arm l = SumsIn (λ (a : Arm) (d : ℕ). stmt_weight l.names a.body d) (is_sound_arm l.names) l.arms l.arm-index l.depth l.all

abbrev pub invariant-weigh_block-loop-statement : goal.invariant-weigh_block-loop-statement
invariant-weigh_block-loop-statement l = SumsIn (stmt_weight l.names) (is_sound_stmt l.names) l.body l.statement-index l.depth l.all

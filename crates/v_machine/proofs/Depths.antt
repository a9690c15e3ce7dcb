-- What stands in a statement is less deep than that.
use denote.Param.Weighed.{most}
use Rattle.std.proofs.Common.{arith, sym, ◌<◌, List}
use Rattle.v_core.specs.declared.typed.Typed.{Typed}
use Rattle.v_core.specs.declared.statement.TypedArm.{TypedArm}
use Rattle.v_core.specs.declared.statement.TypedStmt.{TypedStmt}
use Rattle.v_core.specs.declared.statement.TypedStmt.TheOpen as o
use Rattle.v_core.specs.declared.statement.TypedStmt.TheVariants as e
use Rattle.v_core.specs.declared.statement.TypedStmt.TheViews.{size_is-TypedStmt, roll-TypedStmt, out-roll-TypedStmt, size_is-TypedArm}
use Rattle.v_core.proofs.statement.TypedStmt.TheLaws.{the_size}
use Rattle.v_core.proofs.statement.TypedArm.TheLaws as arm

pub body_deeper : (body : List TypedStmt) → most the_size body < the_size (e.Block body)
body_deeper body = rw (sym (e.rolls-Block body), size_is-TypedStmt (roll-TypedStmt (o.Block body)), out-roll-TypedStmt (o.Block body)) (omega arith)

pub arms_deeper : (subject : Typed) (arms : List TypedArm) → most arm.the_size arms < the_size (e.Case subject arms)
arms_deeper subject arms =
    rw (sym (e.rolls-Case subject arms), size_is-TypedStmt (roll-TypedStmt (o.Case subject arms)), out-roll-TypedStmt (o.Case subject arms)) (omega arith)

pub arm_deeper : (a : TypedArm) → the_size a.body < arm.the_size a
arm_deeper a = rw (size_is-TypedArm a) (omega arith)

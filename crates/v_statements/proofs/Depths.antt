-- What stands in a target or statement is less deep than that.
use denote.Param.Weighed.{most}
use Rattle.std.proofs.Common.{arith, sym, ◌<◌, ℕ, List}
use Rattle.v_syntax.specs.declared.expr.Expr.{Expr}
use Rattle.v_syntax.specs.declared.stmt.Target.{Target}
use Rattle.v_syntax.specs.declared.stmt.Target.TheOpen as p
use Rattle.v_syntax.specs.declared.stmt.Target.TheVariants as t
use Rattle.v_syntax.specs.declared.stmt.Target.TheViews.{size_is-Target, roll-Target, out-roll-Target}
use Rattle.v_syntax.proofs.stmt.Target.TheLaws as target
use Rattle.v_syntax.specs.declared.stmt.CaseKind.{CaseKind}
use Rattle.v_syntax.specs.declared.stmt.Arm.{Arm}
use Rattle.v_syntax.specs.declared.stmt.Stmt.{Stmt}
use Rattle.v_syntax.specs.declared.stmt.Stmt.TheOpen as o
use Rattle.v_syntax.specs.declared.stmt.Stmt.TheVariants as s
use Rattle.v_syntax.specs.declared.stmt.Stmt.TheViews.{size_is-Stmt, roll-Stmt, out-roll-Stmt, size_is-Arm}
use Rattle.v_syntax.proofs.stmt.Stmt.TheLaws.{the_size}
use Rattle.v_syntax.proofs.stmt.Arm.TheLaws as arm

pub parts_deeper : (brace : ℕ) (parts : List Target) → most target.the_size parts < target.the_size (t.Concat brace parts)
parts_deeper brace parts = rw (sym (t.rolls-Concat brace parts), size_is-Target (roll-Target (p.Concat brace parts)), out-roll-Target (p.Concat brace parts)) (omega arith)

pub body_deeper : (body : List Stmt) → most the_size body < the_size (s.Block body)
body_deeper body = rw (sym (s.rolls-Block body), size_is-Stmt (roll-Stmt (o.Block body)), out-roll-Stmt (o.Block body)) (omega arith)

pub if_deeper : (c : Expr) (a : Stmt) → the_size a < the_size (s.If c a)
if_deeper c a = rw (sym (s.rolls-If c a), size_is-Stmt (roll-Stmt (o.If c a)), out-roll-Stmt (o.If c a)) (omega arith)

pub then_deeper : (c : Expr) (a b : Stmt) → the_size a < the_size (s.IfElse c a b)
then_deeper c a b = rw (sym (s.rolls-IfElse c a b), size_is-Stmt (roll-Stmt (o.IfElse c a b)), out-roll-Stmt (o.IfElse c a b)) (omega arith)

pub else_deeper : (c : Expr) (a b : Stmt) → the_size b < the_size (s.IfElse c a b)
else_deeper c a b = rw (sym (s.rolls-IfElse c a b), size_is-Stmt (roll-Stmt (o.IfElse c a b)), out-roll-Stmt (o.IfElse c a b)) (omega arith)

pub arms_deeper : (kind : CaseKind) (subject : Expr) (arms : List Arm) → most arm.the_size arms < the_size (s.Case kind subject arms)
arms_deeper kind subject arms =
    rw (sym (s.rolls-Case kind subject arms), size_is-Stmt (roll-Stmt (o.Case kind subject arms)), out-roll-Stmt (o.Case kind subject arms)) (omega arith)

pub arm_deeper : (a : Arm) → the_size a.body < arm.the_size a
arm_deeper a = rw (size_is-Arm a) (omega arith)

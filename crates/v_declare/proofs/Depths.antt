-- What stands in a replication is less deep than it.
use Rattle.std.proofs.Common.{arith, sym, ◌<◌, ℕ, List}
use denote.Param.Weighed.{most}
use Rattle.v_syntax.specs.declared.expr.Expr.{Expr}
use Rattle.v_syntax.specs.declared.expr.Expr.TheOpen as o
use Rattle.v_syntax.specs.declared.expr.Expr.TheVariants as e
use Rattle.v_syntax.specs.declared.expr.Expr.TheViews.{size_is-Expr, roll-Expr, out-roll-Expr}
use Rattle.v_syntax.proofs.expr.Expr.TheLaws.{the_size}

pub copied_deeper : (brace count_at : ℕ) (count : Expr) (inner : ℕ) (parts : List Expr) → most the_size parts < the_size (e.Replicate brace count_at count inner parts)
copied_deeper brace count_at count inner parts =
    rw (sym (e.rolls-Replicate brace count_at count inner parts), size_is-Expr (roll-Expr (o.Replicate brace count_at count inner parts)), out-roll-Expr (o.Replicate brace count_at count inner parts)) (omega arith)

-- What stands in an expression is less deep than the expression.
use Rattle.std.proofs.Common.{arith, sym, ◌<◌, ℕ, List}
use denote.Param.Weighed.{most}
use Rattle.v_syntax.specs.declared.token.Ident.{Ident}
use Rattle.v_syntax.specs.declared.token.Cast.{Cast}
use Rattle.v_syntax.specs.declared.expr.UnaryOperator.{UnaryOperator}
use Rattle.v_syntax.specs.declared.expr.BinaryOperator.{BinaryOperator}
use Rattle.v_syntax.specs.declared.expr.Expr.{Expr}
use Rattle.v_syntax.specs.declared.expr.Expr.TheOpen as o
use Rattle.v_syntax.specs.declared.expr.Expr.TheVariants as e
use Rattle.v_syntax.specs.declared.expr.Expr.TheShapes.{weighed-Expr-Chain-1-at-2}
use Rattle.v_syntax.specs.declared.expr.Expr.TheViews.{size_is-Expr, roll-Expr, out-roll-Expr}
use Rattle.v_syntax.proofs.expr.Expr.TheLaws.{the_size}

-- how deep an operand of a chain is
abbrev pub link_size : BinaryOperator × Expr → ℕ
link_size l = weighed-Expr-Chain-1-at-2.weight Expr the_size l

pub select_deeper : (n : Ident) (bracket : ℕ) (index : Expr) → the_size index < the_size (e.Select n bracket index)
select_deeper n bracket index =
    rw (sym (e.rolls-Select n bracket index), size_is-Expr (roll-Expr (o.Select n bracket index)), out-roll-Expr (o.Select n bracket index)) (omega arith)

pub unary_deeper : (op : UnaryOperator) (x : Expr) → the_size x < the_size (e.Unary op x)
unary_deeper op x = rw (sym (e.rolls-Unary op x), size_is-Expr (roll-Expr (o.Unary op x)), out-roll-Expr (o.Unary op x)) (omega arith)

pub cast_deeper : (sign : Cast) (x : Expr) → the_size x < the_size (e.Cast sign x)
cast_deeper sign x = rw (sym (e.rolls-Cast sign x), size_is-Expr (roll-Expr (o.Cast sign x)), out-roll-Expr (o.Cast sign x)) (omega arith)

pub condition_deeper : (c x y : Expr) → the_size c < the_size (e.Conditional c x y)
condition_deeper c x y =
    rw (sym (e.rolls-Conditional c x y), size_is-Expr (roll-Expr (o.Conditional c x y)), out-roll-Expr (o.Conditional c x y)) (omega arith)

pub then_deeper : (c x y : Expr) → the_size x < the_size (e.Conditional c x y)
then_deeper c x y =
    rw (sym (e.rolls-Conditional c x y), size_is-Expr (roll-Expr (o.Conditional c x y)), out-roll-Expr (o.Conditional c x y)) (omega arith)

pub otherwise_deeper : (c x y : Expr) → the_size y < the_size (e.Conditional c x y)
otherwise_deeper c x y =
    rw (sym (e.rolls-Conditional c x y), size_is-Expr (roll-Expr (o.Conditional c x y)), out-roll-Expr (o.Conditional c x y)) (omega arith)

pub first_deeper : (x : Expr) (links : List (BinaryOperator × Expr)) → the_size x < the_size (e.Chain x links)
first_deeper x links = rw (sym (e.rolls-Chain x links), size_is-Expr (roll-Expr (o.Chain x links)), out-roll-Expr (o.Chain x links)) (omega arith)

pub links_deeper : (x : Expr) (links : List (BinaryOperator × Expr)) → most link_size links < the_size (e.Chain x links)
links_deeper x links = rw (sym (e.rolls-Chain x links), size_is-Expr (roll-Expr (o.Chain x links)), out-roll-Expr (o.Chain x links)) (omega arith)

pub parts_deeper : (brace : ℕ) (parts : List Expr) → most the_size parts < the_size (e.Concat brace parts)
parts_deeper brace parts = rw (sym (e.rolls-Concat brace parts), size_is-Expr (roll-Expr (o.Concat brace parts)), out-roll-Expr (o.Concat brace parts)) (omega arith)

pub inner_deeper : (brace at : ℕ) (count : Expr) (inner : ℕ) (parts : List Expr) → most the_size parts < the_size (e.Replicate brace at count inner parts)
inner_deeper brace at count inner parts =
    rw (sym (e.rolls-Replicate brace at count inner parts), size_is-Expr (roll-Expr (o.Replicate brace at count inner parts)), out-roll-Expr (o.Replicate brace at count inner parts)) (omega arith)

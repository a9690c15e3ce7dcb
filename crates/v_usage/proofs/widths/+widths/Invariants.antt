use Rattle.std.proofs.Common.{◌+◌}
use Rattle.v_syntax.specs.declared.expr.Expr.{Expr}
use Rattle.v_syntax.specs.declared.expr.BinaryOperator.{BinaryOperator}
use Rattle.v_usage.specs.Bits.{bits_of, width_between}
use Rattle.v_usage.proofs.Counting.{Counts}
use Rattle.v_usage.proofs.widths.+widths.Given as goal

abbrev pub invariant-chain_width-loop-operator : goal.invariant-chain_width-loop-operator
invariant-chain_width-loop-operator l =
    Counts (λ (link : BinaryOperator × Expr). width_between link.0) (λ (link : BinaryOperator × Expr). bits_of l.names link.1) l.links l.operator-index l.initial.all l.all

abbrev pub invariant-joined_width-loop-x : goal.invariant-joined_width-loop-x
invariant-joined_width-loop-x l = Counts (λ (x : Expr) m n. m + n) (bits_of l.names) l.parts l.x-index l.initial.all l.all

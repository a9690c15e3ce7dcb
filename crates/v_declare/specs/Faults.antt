-- The faults of operands and arms, one behind another.
use Rattle.std.specs.Prelude.{ℕ, List, ◌++◌, flat_map}
use Rattle.v_syntax.specs.declared.expr.Expr.{Expr}
use Rattle.v_syntax.specs.declared.expr.BinaryOperator.{BinaryOperator}
use Rattle.v_syntax.specs.declared.stmt.Arm.{Arm}
use Rattle.v_meaning.specs.declared.names.Entry.{Entry}
use Rattle.v_meaning.specs.Statements.{label_items}
use Rattle.v_meaning.specs.ConstantRules.{expr_faults, stmt_faults}

abbrev pub link_faults : List Entry → BinaryOperator × Expr → List ℕ
link_faults names link = expr_faults names link.1

abbrev pub arm_faults : List Entry → Arm → List ℕ
arm_faults names arm = flat_map (expr_faults names) (label_items arm.label) ++ stmt_faults names arm.body

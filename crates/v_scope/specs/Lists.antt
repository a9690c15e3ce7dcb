-- The marks of operands, parts and arms, one behind another.
use Rattle.std.specs.Prelude.{List, [], ◌∷◌, ◌++◌, Bool, ◌||◌}
use Rattle.v_syntax.specs.declared.expr.Expr.{Expr}
use Rattle.v_syntax.specs.declared.expr.BinaryOperator.{BinaryOperator}
use Rattle.v_syntax.specs.declared.stmt.Arm.{Arm}
use Rattle.v_syntax.specs.declared.stmt.CaseKind.{CaseKind}
use Rattle.v_meaning.specs.declared.names.Entry.{Entry}
use Rattle.v_meaning.specs.Expressions.{number_by_itself}
use Rattle.v_meaning.specs.Marks.{Mark, marks_of, unsized_number, label_marks, stmt_marks, is_default}

abbrev pub link_marks : List Entry → BinaryOperator × Expr → List Mark
link_marks names link = marks_of names link.1

abbrev pub part_marks : List Entry → Expr → List Mark
part_marks names x = unsized_number (number_by_itself x) ++ marks_of names x

abbrev pub arms_behind : List Entry → CaseKind → Bool → List Arm → List Mark
arms_behind names kind met [] = []
arms_behind names kind met (a ∷ arms) = label_marks names kind met a.label ++ stmt_marks names a.body ++ arms_behind names kind (met || is_default a.label) arms

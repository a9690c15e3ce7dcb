use Rattle.v_scope.proofs.Adding.{same_end}
use Rattle.v_scope.proofs.StmtMarks.{plain_item, number_item, other_item}
use Rattle.v_scope.proofs.stmts.add_item.Goals as goal

pub returns-in-Case : goal.returns-in-Case
returns-in-Case c = same_end c.add_expr.result _ _ _ _ (plain_item _ _ c.in-Case.is) c.add_expr.ensures

pub returns-in-Some : goal.returns-in-Some
returns-in-Some c = same_end c.add.result _ _ _ _ (number_item _ _ _ _ c.in-Casez.is c.number_of.ensures c.in-Some.is) c.add.ensures

pub returns-in-None : goal.returns-in-None
returns-in-None c = same_end c.add_expr-in-None.result _ _ _ _ (other_item _ _ _ c.in-Casez.is c.number_of.ensures c.in-None.is) c.add_expr-in-None.ensures

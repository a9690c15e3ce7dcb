use Rattle.v_scope.proofs.Adding.{same_end}
use Rattle.v_scope.proofs.StmtMarks.{again_is}
use Rattle.v_scope.proofs.stmts.add_default.Goals as goal

pub returns-then-met : goal.returns-then-met
returns-then-met c = same_end c.add.result _ _ _ _ (again_is c.args.met c.args.at c.if-met.true) c.add.ensures

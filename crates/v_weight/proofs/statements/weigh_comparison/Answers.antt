use Rattle.v_weight.proofs.Saturating.{same_path, same_trans}
use Rattle.v_weight.proofs.StmtLaws.{comparison_is}
use Rattle.v_weight.proofs.statements.weigh_comparison.Goals as goal

pub returns : goal.returns
returns c sound sounds =
    same_trans _ _ _ (c.own.ensures _ (c.in_ok-all.ensures sounds _ (c.in_ok-subject.ensures sound).stands)) (same_path _ _ (comparison_is c.args.names.now c.args.subject.now c.args.arms.now))

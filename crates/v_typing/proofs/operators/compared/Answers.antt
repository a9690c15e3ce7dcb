use Rattle.std.proofs.Common.{refl}
use Rattle.v_typing.proofs.KeepLaws.{compared_has}
use Rattle.v_typing.proofs.OperatorLaws.{compared_is}
use Rattle.v_typing.proofs.SitedLaws.{linked_sited}
use Rattle.v_typing.proofs.operators.compared.Goals as goal

pub returns-clause-value : goal.returns-clause-value
returns-clause-value c = compared_is _ c.args.x c.args.y _ _ _ _ _ _ c.leaf.ensures.value c.in_ok-t.ensures.value c.in_ok-left.ensures.value c.in_ok-right.ensures.value c.joint_width-width.ensures c.joint_sign-signed.ensures

pub returns-clause-form : goal.returns-clause-form
returns-clause-form c names is h k =
    c.leaf.ensures.form names refl
    (compared_has _ c.args.x c.args.y _ _ _ _ _ names c.in_ok-t.ensures.form (c.in_ok-left.ensures.form names) c.in_ok-right.ensures.form c.joint_width-width.ensures is h k)

pub returns-clause-sited : goal.returns-clause-sited
returns-clause-sited c = linked_sited _ _ _ _ _ _ c.leaf.ensures.sited c.in_ok-t.ensures.sited c.in_ok-left.ensures.sited c.in_ok-right.ensures.sited

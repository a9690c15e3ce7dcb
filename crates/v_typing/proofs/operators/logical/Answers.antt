use Rattle.std.proofs.Common.{refl}
use Rattle.v_typing.proofs.KeepLaws.{logical_has}
use Rattle.v_typing.proofs.OperatorLaws.{logical_is}
use Rattle.v_typing.proofs.SitedLaws.{linked_sited}
use Rattle.v_typing.proofs.operators.logical.Goals as goal

pub returns-clause-value : goal.returns-clause-value
returns-clause-value c = logical_is _ c.args.x c.args.y _ _ _ _ c.leaf.ensures.value c.in_ok-t.ensures.value c.in_ok-left.ensures.value c.in_ok-right.ensures.value

pub returns-clause-form : goal.returns-clause-form
returns-clause-form c names is h k =
    c.leaf.ensures.form names refl
    (logical_has _ c.args.x c.args.y _ _ _ names c.in_ok-t.ensures.form (c.in_ok-left.ensures.form names) (c.in_ok-right.ensures.form names) is h k)

pub returns-clause-sited : goal.returns-clause-sited
returns-clause-sited c = linked_sited _ _ _ _ _ _ c.leaf.ensures.sited c.in_ok-t.ensures.sited c.in_ok-left.ensures.sited c.in_ok-right.ensures.sited

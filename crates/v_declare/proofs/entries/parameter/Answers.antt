use Rattle.v_declare.proofs.Made.{parameter_is}
use Rattle.v_declare.proofs.entries.parameter.Goals as goal

pub returns-clause-entry : goal.returns-clause-entry
returns-clause-entry c =
    parameter_is c.args.names.now c.args.group.now c.args.setting.now c.args.shape _ _ _ _ _ _ c.requires.shape c.in_ok-clone.ensures.cases
    (c.width.ensures.value _ _ c.in_ok-constant.ensures.constant) (c.is_signed.ensures _ _ c.in_ok-constant.ensures.constant) c.parameter_width-width.ensures c.parameter_sign-signed.ensures
    (c.assigned.ensures.value _ _ c.in_ok-constant.ensures.constant)

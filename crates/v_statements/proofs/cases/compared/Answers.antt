use Rattle.std.proofs.Common.{◌∙◌}
use Rattle.std.specs.Prelude.{◌&&◌}
use Rattle.v_statements.specs.Sited.{is_sited_arm, is_sited_open_arm}
use Rattle.v_statements.proofs.FormLaws.{compared_keeps}
use Rattle.v_statements.proofs.SitedLaws.{alike}
use Rattle.v_statements.proofs.OpenLaws.{compared_is}
use Rattle.v_statements.proofs.cases.compared.Goals as goal

pub returns-clause-form : goal.returns-clause-form
returns-clause-form c names h each =
    compared_keeps names _ c.args.subject _ c.args.arms _ _ _ c.chosen.ensures.form c.in_ok-subject.ensures.form (c.in_ok-arms.ensures.form names) (c.common-by.ensures names)
    c.as_slice.ensures c.if-by-gt128.false h each

pub returns-clause-value : goal.returns-clause-value
returns-clause-value c = λ names.
    compared_is names _ c.args.subject _ c.args.arms _ _ _ c.chosen.ensures.value c.in_ok-subject.ensures.value (c.in_ok-arms.ensures.value names) (c.common-by.ensures names) c.as_slice.ensures

pub returns-clause-sited : goal.returns-clause-sited
returns-clause-sited c =
    let arms = alike is_sited_arm is_sited_open_arm _ _ c.in_ok-arms.ensures.sited in
    c.chosen.ensures.sited ∙ (λ i names sites. c.in_ok-subject.ensures.sited i names sites && arms i names sites)

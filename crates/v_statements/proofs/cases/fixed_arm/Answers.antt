use Rattle.std.specs.Prelude.{◌&&◌}
use Rattle.v_core.specs.SitedCores.{is_sited_stmt}
use Rattle.v_statements.specs.Sited.{is_sited_item, is_sited_open_item}
use Rattle.v_statements.proofs.FormLaws.{arm_has_form}
use Rattle.v_statements.proofs.SitedLaws.{alike}
use Rattle.v_statements.proofs.OpenLaws.{arm_fixed}
use Rattle.v_statements.proofs.cases.fixed_arm.Goals as goal

pub returns-clause-form : goal.returns-clause-form
returns-clause-form c = λ names. arm_has_form names c.args.by c.args.arm c.in_ok-label.label (c.in_ok-label.ensures.form names)

pub returns-clause-value : goal.returns-clause-value
returns-clause-value c = λ names. arm_fixed names c.args.arm c.args.by _ (c.in_ok-label.ensures.items names) c.in_ok-label.ensures.default

pub returns-clause-sited : goal.returns-clause-sited
returns-clause-sited c =
    let items = alike is_sited_item is_sited_open_item _ _ c.in_ok-label.ensures.sited in
    λ i names sites. items i names sites && is_sited_stmt c.args.arm.body names sites

use Rattle.std.proofs.Common.{ap, ◌∙◌}
use Rattle.v_meaning.specs.Senses.{own}
use Rattle.v_core.specs.Values.{Value}
use Rattle.v_core.specs.Sited.{SitedIn}
use Rattle.v_statements.proofs.FormLaws.{kept_of}
use Rattle.v_statements.proofs.stmts.condition.Goals as goal

pub returns-clause-value : goal.returns-clause-value
returns-clause-value c = ap (λ (f : Value). f c.args.names.now) c.in_ok-t.ensures.value ∙ ap own c.in_ok-x.ensures.value

pub returns-clause-form : goal.returns-clause-form
returns-clause-form c = kept_of _ _ (c.in_ok-t.ensures.form c.args.names.now c.in_ok-x.ensures.form)

pub returns-clause-sited : goal.returns-clause-sited
returns-clause-sited c widths read = ap (λ (f : SitedIn). f c.args.names.now widths) c.in_ok-t.ensures.sited ∙ c.in_ok-x.ensures.sited widths read

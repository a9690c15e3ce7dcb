use Rattle.std.proofs.Common.{ap, ◌∙◌}
use Rattle.v_core.specs.FormedCores.{KeptIn}
use Rattle.v_core.specs.Sited.{SitedIn}
use Rattle.v_statements.proofs.FormLaws.{both, few, kept_of, value_keeps}
use Rattle.v_statements.proofs.StmtLaws.{assign_is}
use Rattle.v_statements.proofs.stmts.assignment.Goals as goal

pub measured-requires : goal.measured-requires
measured-requires c = record { sound = c.requires.target }

pub opened-requires : goal.opened-requires
opened-requires c = record { sound = c.requires.value }

pub returns-clause-form : goal.returns-clause-form
returns-clause-form c =
    ap (λ (f : KeptIn). f c.args.names.now) c.in_ok-t.ensures.form
    ∙ both (kept_of _ _ c.in_ok-target.ensures.target.keeps)
    (value_keeps c.args.names.now _ _ _ _ c.in_ok-value-2.ensures.form c.max-width.ensures (few _ c.in_ok-target.ensures.target.word) c.in_ok-value.ensures.form)

pub returns-clause-value : goal.returns-clause-value
returns-clause-value c =
    assign_is c.args.names.now _ _ _ _ _ _ _ _ _ c.in_ok-t.ensures.value c.in_ok-value-2.ensures.value c.in_ok-target.ensures.target.means c.in_ok-value.ensures.value c.max-width.ensures c.in_ok-target.ensures.target.measured

pub returns-clause-sited : goal.returns-clause-sited
returns-clause-sited c widths target value =
    ap (λ (f : SitedIn). f c.args.names.now widths) c.in_ok-t.ensures.sited
    ∙ both (c.in_ok-target.ensures.sited widths target)
    (ap (λ (f : SitedIn). f c.args.names.now widths) c.in_ok-value-2.ensures.sited ∙ c.in_ok-value.ensures.sited widths value)

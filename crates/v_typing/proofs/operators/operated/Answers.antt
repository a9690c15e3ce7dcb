use Rattle.std.proofs.Common.{◌≡◌, List, ap, sym, ◌∙◌}
use Rattle.std.proofs.lemmas.Result.{IfOk-weaker}
use Rattle.v_meaning.specs.Senses.{Class, Shared, Compared, Shifted, Logical, class_of}
use Rattle.v_meaning.specs.declared.names.Entry.{Entry}
use Rattle.v_core.specs.declared.open.Open.{Open}
use Rattle.v_core.specs.OpenForms.{OpenFormed}
use Rattle.v_constants.specs.Classes.{class_in}
use Rattle.v_typing.proofs.operators.operated.Goals as goal

-- what an operator of a class gives keeps to its widths where the operands do
abbrev Gives : Open → Open → Open → Type 0
Gives x y o = (names : List Entry) → OpenFormed x names → OpenFormed y names → OpenFormed o names

pub returns-in-Shared-clause-form : goal.returns-in-Shared-clause-form
returns-in-Shared-clause-form c =
    IfOk-weaker c.shared.result
    (λ (o : Open). (names : List Entry) → class_of c.args.operator ≡ Shared → OpenFormed c.args.x names → OpenFormed c.args.y names → OpenFormed o names)
    (Gives c.args.x c.args.y) (λ o p names. p names (sym c.class_of.ensures ∙ ap class_in c.in-Shared.is)) c.shared.ensures.form

pub returns-in-Compared-clause-form : goal.returns-in-Compared-clause-form
returns-in-Compared-clause-form c =
    IfOk-weaker c.compared.result
    (λ (o : Open). (names : List Entry) → class_of c.args.operator ≡ Compared → OpenFormed c.args.x names → OpenFormed c.args.y names → OpenFormed o names)
    (Gives c.args.x c.args.y) (λ o p names. p names (sym c.class_of.ensures ∙ ap class_in c.in-Compared.is)) c.compared.ensures.form

pub returns-in-Shifted-clause-form : goal.returns-in-Shifted-clause-form
returns-in-Shifted-clause-form c =
    IfOk-weaker c.shifted.result
    (λ (o : Open). (names : List Entry) → class_of c.args.operator ≡ Shifted → OpenFormed c.args.x names → OpenFormed c.args.y names → OpenFormed o names)
    (Gives c.args.x c.args.y) (λ o p names. p names (sym c.class_of.ensures ∙ ap class_in c.in-Shifted.is)) c.shifted.ensures.form

pub returns-in-Logical-clause-form : goal.returns-in-Logical-clause-form
returns-in-Logical-clause-form c =
    IfOk-weaker c.logical.result
    (λ (o : Open). (names : List Entry) → class_of c.args.operator ≡ Logical → OpenFormed c.args.x names → OpenFormed c.args.y names → OpenFormed o names)
    (Gives c.args.x c.args.y) (λ o p names. p names (sym c.class_of.ensures ∙ ap class_in c.in-Logical.is)) c.logical.ensures.form

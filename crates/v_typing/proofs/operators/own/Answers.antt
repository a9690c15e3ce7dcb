use Rattle.std.proofs.Common.{◌≡◌, List, true}
use Rattle.std.proofs.lemmas.Result.{IfOk-weaker}
use Rattle.v_meaning.specs.declared.names.Entry.{Entry}
use Rattle.v_core.specs.declared.typed.Typed.{Typed}
use Rattle.v_core.specs.Formed.{formed, has}
use Rattle.v_core.specs.OpenForms.{OpenFormed, body_form}
use Rattle.v_typing.proofs.KeepLaws.{own_formed}
use Rattle.v_typing.proofs.operators.own.Goals as goal

pub returns-clause-form : goal.returns-clause-form
returns-clause-form c =
    IfOk-weaker c.fix.result (λ (t : Typed). formed t ≡ body_form c.args.x.body c.args.x.width c.args.x.signed)
    (λ (t : Typed). (names : List Entry) → OpenFormed c.args.x names → has c.args.x.width (formed t names) ≡ true)
    (λ t p names h. own_formed c.args.x t names p h) c.fix.ensures.form

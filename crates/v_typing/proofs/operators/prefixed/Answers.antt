use Rattle.std.proofs.Common.{refl, sym, ◌∙◌}
use Rattle.v_typing.proofs.KeepLaws.{prefixed_has, through_formed}
use Rattle.v_typing.proofs.OperatorLaws.{prefixed_is}
use Rattle.v_typing.proofs.SitedLaws.{through_sited}
use Rattle.v_typing.proofs.operators.prefixed.Goals as goal

pub returns-clause-value : goal.returns-clause-value
returns-clause-value c =
    prefixed_is _ c.args.x _ _ _ c.leaf.ensures.value c.in_ok-t.ensures.value c.in_ok-operand.ensures.value (sym c.is_through.ensures ∙ c.if-is_through.false)

pub returns-clause-form : goal.returns-clause-form
returns-clause-form c names h =
    c.leaf.ensures.form names refl
    (prefixed_has _ c.args.x _ _ names c.in_ok-t.ensures.form (c.in_ok-operand.ensures.form names) (sym c.is_through.ensures ∙ c.if-is_through.false) h)

pub returns-then-is_through-clause-form : goal.returns-then-is_through-clause-form
returns-then-is_through-clause-form c names h =
    through_formed c.args.operator c.args.x _ names c.in_ok-inner.ensures (sym c.is_through.ensures ∙ c.if-is_through.true) h

pub returns-then-is_through-clause-sited : goal.returns-then-is_through-clause-sited
returns-then-is_through-clause-sited c = through_sited _ _ _ c.in_ok-inner.ensures

pub returns-clause-sited : goal.returns-clause-sited
returns-clause-sited c = c.leaf.ensures.sited ∙ c.in_ok-t.ensures.sited ∙ c.in_ok-operand.ensures.sited

use Rattle.std.proofs.Common.{sym, ◌∙◌, get_or, refl}
use Rattle.m_valid.specs.declared.nodes.Node.TheVariants.{Constant}
use Rattle.m_valid.proofs.Judging.{need_holds, need_breaks}
use Rattle.m_valid.proofs.needs.first_missing.Goals as goal

pub loop-i-preserved : goal.loop-i-preserved
loop-i-preserved c = λ used rooted u r.
    need_holds used rooted c.args.nodes.now c.loop-i.i (get_or c.args.nodes.now c.loop-i.i Constant) _ c.loop-i-test.true refl (sym (c.is_met.ensures used rooted u r) ∙ c.if-not-is_met.false) (c.loop-i.invariant used rooted u r)

pub returns-then-not-is_met : goal.returns-then-not-is_met
returns-then-not-is_met c = λ used rooted u r.
    need_breaks used rooted c.args.nodes.now c.loop-i.i (get_or c.args.nodes.now c.loop-i.i Constant) _ c.loop-i-test.true refl (sym (c.is_met.ensures used rooted u r) ∙ c.if-not-is_met.true) (c.loop-i.invariant used rooted u r)

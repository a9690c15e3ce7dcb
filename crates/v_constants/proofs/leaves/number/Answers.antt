use Rattle.std.proofs.Common.{sym, ◌∙◌}
use Rattle.v_constants.proofs.ProperLaws.{proper_number}
use Rattle.v_constants.proofs.Steps.{number_opened}
use Rattle.v_constants.proofs.leaves.number.Goals as goal

pub returns-then-is_constant : goal.returns-then-is_constant
returns-then-is_constant c =
    λ names. number_opened names c.args.n.now c.leaf.result c.literal-l.result _ c.leaf.ensures.sense c.leaf.ensures.kept c.value_with.ensures.value c.literal-l.ensures.value
    (proper_number names c.args.n.now ∙ sym c.is_constant.ensures ∙ c.if-is_constant.true)

pub returns-else-is_constant : goal.returns-else-is_constant
returns-else-is_constant c = λ names. proper_number names c.args.n.now ∙ sym c.is_constant.ensures ∙ c.if-is_constant.false

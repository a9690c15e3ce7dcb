use Rattle.v_typing.proofs.KeepLaws.{number_is_word}
use Rattle.std.proofs.Common.{◌∙◌}
use Rattle.v_typing.proofs.OperatorLaws.{leaf_value}
use Rattle.v_typing.proofs.leaves.number.Goals as goal

pub returns-clause-value : goal.returns-clause-value
returns-clause-value c = c.leaf.ensures.value ∙ leaf_value _ _ _ _ c.number_word-word.ensures.value

pub returns-clause-form : goal.returns-clause-form
returns-clause-form c names h = c.leaf.ensures.form names (number_is_word c.args.literal h) (c.number_word-word.ensures.form names h)

use Rattle.v_typing.proofs.KeepLaws.{plain_has, open_has}
use Rattle.v_meaning.specs.Expressions.{open_at}
use Rattle.v_typing.proofs.LeafLaws.{plain, open_is}
use Rattle.v_typing.proofs.leaves.number_word.Goals as goal

pub returns-then-literal-eq0-clause-value : goal.returns-then-literal-eq0-clause-value
returns-then-literal-eq0-clause-value c = plain c.args.literal (open_at c.args.sites.now c.args.at) _ c.constant.ensures.value c.if-literal-eq0.true

pub returns-else-literal-eq0-clause-value : goal.returns-else-literal-eq0-clause-value
returns-else-literal-eq0-clause-value c = open_is c.args.literal c.args.sites.now c.args.at _ _ c.open_number.ensures.value c.number_of.ensures

pub returns-then-literal-eq0-clause-form : goal.returns-then-literal-eq0-clause-form
returns-then-literal-eq0-clause-form c names h = plain_has c.args.literal _ names c.constant.ensures.form h

pub returns-else-literal-eq0-clause-form : goal.returns-else-literal-eq0-clause-form
returns-else-literal-eq0-clause-form c names h = open_has c.args.literal _ names c.open_number.ensures.form h

use Rattle.v_statements.proofs.FormLaws.{item_has_form}
use Rattle.v_statements.proofs.ItemLaws.{item_fixed}
use Rattle.v_statements.proofs.items.fixed_item.Goals as goal

pub returns-clause-value : goal.returns-clause-value
returns-clause-value c = λ names. item_fixed names c.args.by c.args.item _ _ c.ignored-ignored.ensures c.in_ok-value.ensures.value

pub returns-clause-form : goal.returns-clause-form
returns-clause-form c = λ names. item_has_form names c.args.by c.args.item _ c.ignored-ignored.result c.in_ok-value.ensures.form

use Rattle.v_statements.proofs.OpenLaws.{label_behind, default_behind}
use Rattle.v_statements.proofs.cases.with_label.Goals as goal

pub returns-in-Items : goal.returns-in-Items
returns-in-Items c = λ names. label_behind names c.args.label.now _ _ c.args.by _ c.in-Items.is c.as_slice.ensures (c.with_items.ensures names)

pub returns-in-Default : goal.returns-in-Default
returns-in-Default c = λ names. default_behind names c.args.label.now c.args.by c.in-Default.is

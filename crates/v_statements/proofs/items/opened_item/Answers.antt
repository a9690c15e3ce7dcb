use Rattle.v_statements.proofs.ItemLaws.{right_item, item_opened}
use Rattle.v_statements.proofs.items.opened_item.Goals as goal

pub z_bits-z_bits-requires : goal.z_bits-z_bits-requires
z_bits-z_bits-requires c = record { right = right_item c.args.names.now c.args.item.now c.requires.sound }

pub returns-clause-value : goal.returns-clause-value
returns-clause-value c = item_opened c.args.names.now c.args.sites.now c.args.kind c.args.item.now _ _ c.z_bits-z_bits.ensures c.in_ok-value.ensures.value

pub returns-clause-form : goal.returns-clause-form
returns-clause-form c = c.in_ok-value.ensures.form

pub returns-clause-sited : goal.returns-clause-sited
returns-clause-sited c = c.in_ok-value.ensures.sited

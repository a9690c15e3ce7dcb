use Rattle.v_statements.proofs.ItemLaws.{right_number, no_z, number_z, other_z}
use Rattle.v_statements.proofs.items.z_bits.Goals as goal

pub z_of-requires : goal.z_of-requires
z_of-requires c = record { right = right_number c.args.item.now _ _ c.number_of.ensures c.in-Some.is c.requires.right }

pub returns-in-Case : goal.returns-in-Case
returns-in-Case c = no_z c.args.item.now _ c.in-Case.is

pub returns-in-Some : goal.returns-in-Some
returns-in-Some c = number_z c.args.item.now _ _ _ _ c.in-Casez.is c.number_of.ensures c.in-Some.is c.z_of.ensures

pub returns-in-None : goal.returns-in-None
returns-in-None c = other_z c.args.item.now _ _ c.in-Casez.is c.number_of.ensures c.in-None.is

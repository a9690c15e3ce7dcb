use Rattle.v_typed.proofs.Outputs.{no_outputs, outputs_added}
use Rattle.v_typed.proofs.ports.add_group.Goals as goal

pub returns-in-Input : goal.returns-in-Input
returns-in-Input c = no_outputs c.args.names.now _ c.args.group.now c.in-Input.is

pub returns-in-Output : goal.returns-in-Output
returns-in-Output c = outputs_added _ c.args.names.now _ _ c.args.group.now _ c.as_slice.ensures c.in-Output.is c.add_numbers.ensures

use Rattle.std.proofs.Common.{◌≡◌, ◌++◌, drop}
use Rattle.v_meaning.specs.Modules.{inputs_among}
use Rattle.v_machine.specs.Runnable.{port_widths}
use Rattle.v_run.proofs.widths.input_widths_of.Given as goal

abbrev pub invariant-loop-entry : goal.invariant-loop-entry
invariant-loop-entry l = l.widths.items ++ port_widths (inputs_among (drop l.entry-index l.names)) ≡ port_widths (inputs_among l.names)

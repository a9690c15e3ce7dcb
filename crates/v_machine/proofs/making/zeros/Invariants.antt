use Rattle.std.proofs.Common.{◌≡◌, ◌++◌, drop}
use Rattle.v_values.specs.Seen.{widths_of}
use Rattle.v_machine.specs.Firsts.{is_in}
use Rattle.v_machine.specs.Runnable.{widths_where}
use Rattle.v_machine.proofs.making.zeros.Given as goal

abbrev pub invariant-loop-entry : goal.invariant-loop-entry
invariant-loop-entry l = widths_of l.words.items ++ widths_where (is_in l.group) (drop l.entry-index l.names) ≡ widths_where (is_in l.group) l.names

use Rattle.std.proofs.Common.{◌≡◌, ℕ, take, map}
use Rattle.v_core.specs.Values.{entry_at}
use Rattle.v_machine.specs.Runnable.{port_widths}
use Rattle.v_meaning.specs.Modules.{port_of}
use Rattle.v_values.specs.Seen.{widths_of}
use Rattle.v_run.proofs.widths.zeros.Given as goal

abbrev pub invariant-loop-output : goal.invariant-loop-output
invariant-loop-output l = widths_of l.words.items ≡ port_widths (map (λ (n : ℕ). port_of (entry_at l.core.names n)) (take l.output-index l.core.outputs))

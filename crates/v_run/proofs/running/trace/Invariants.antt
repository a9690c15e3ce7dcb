use Rattle.std.proofs.Common.{◌≡◌, ℕ, List, take}
use Rattle.lz_lines.specs.Fields.{Each}
use Rattle.t_trace.specs.Widths.{CyclesFit}
use Rattle.v_core.specs.Cores.{design_in}
use Rattle.v_machine.specs.Runnable.{port_widths}
use Rattle.v_meaning.specs.Designs.{InTextOrder, first_store}
use Rattle.v_run.specs.Turns.{Reaches}
use Rattle.v_run.proofs.running.trace.Given as goal

abbrev pub invariant-loop-i : goal.invariant-loop-i
invariant-loop-i l = record {
  same : l.machine.core ≡ l.core;
  fit : CyclesFit (port_widths (design_in l.core).outputs) l.cycles;
  reaches : (schedules : List (List ℕ)) × Each InTextOrder schedules
      × Reaches (design_in l.core) (first_store (design_in l.core).firsts l.choices.first) (take l.i l.choices.cycles) schedules (take l.i l.stimulus.cycles) l.cycles l.machine.store;
}

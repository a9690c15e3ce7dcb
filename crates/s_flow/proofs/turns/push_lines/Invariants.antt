use Rattle.std.proofs.Common.{◌≡◌, ◌-◌, ◌++◌}
use Rattle.s_flow.specs.SideBySide.{lines_from}
use Rattle.s_flow.proofs.turns.push_lines.Given as goal

abbrev pub invariant-loop-index : goal.invariant-loop-index
invariant-loop-index l = l.cycles ++ lines_from l.ports l.lanes l.index (l.count - l.index) ≡ l.initial.cycles ++ lines_from l.ports l.lanes 0 l.count

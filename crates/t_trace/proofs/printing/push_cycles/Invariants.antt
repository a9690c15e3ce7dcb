use Rattle.std.proofs.Common.{◌≡◌, ◌++◌, take, flat_map}
use Rattle.t_trace.specs.Texts.{cycle_line}
use Rattle.t_trace.proofs.printing.push_cycles.Given as goal

abbrev pub invariant-loop-words : goal.invariant-loop-words
invariant-loop-words l = l.out.items ≡ l.initial.out.items ++ flat_map (cycle_line l.key) (take l.words-index l.cycles)

use Rattle.std.proofs.Common.{ℕ, List, ◌++◌, flat_map, take}
use Rattle.m_valid.specs.Validity.{output_uses}
use Rattle.m_valid.specs.Walk.{Tells}
use Rattle.m_valid.proofs.needs.flag_outputs.Given as goal

abbrev pub invariant-loop-i : goal.invariant-loop-i
invariant-loop-i l = (before : List ℕ) → Tells l.initial.flags before → Tells l.flags (before ++ flat_map output_uses (take l.i l.network.outputs))

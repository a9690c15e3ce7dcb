use Rattle.std.proofs.Common.{ℕ, List, ◌++◌, map, take}
use Rattle.m_valid.specs.Validity.{half}
use Rattle.m_valid.specs.Walk.{Tells}
use Rattle.m_valid.proofs.flags.set_nodes.Given as goal

abbrev pub invariant-loop-literal : goal.invariant-loop-literal
invariant-loop-literal l = (before : List ℕ) → Tells l.initial.flags before → Tells l.flags (before ++ map half (take l.literal-index l.literals))

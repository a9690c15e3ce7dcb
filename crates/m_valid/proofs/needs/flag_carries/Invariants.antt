use Rattle.std.proofs.Common.{ℕ, List, ◌++◌, flat_map, take}
use Rattle.m_valid.specs.Validity.{carry_uses}
use Rattle.m_valid.specs.Walk.{Tells}
use Rattle.m_valid.proofs.needs.flag_carries.Given as goal

abbrev pub invariant-loop-gate : goal.invariant-loop-gate
invariant-loop-gate l = (before : List ℕ) → Tells l.initial.flags before → Tells l.flags (before ++ flat_map carry_uses (take l.gate-index l.gates))

use Rattle.std.proofs.Common.{ℕ, List, ◌++◌, flat_map, take}
use Rattle.m_valid.specs.Validity.{flip_uses}
use Rattle.m_valid.specs.Walk.{Tells}
use Rattle.m_valid.proofs.needs.flag_flips.Given as goal

abbrev pub invariant-loop-flip : goal.invariant-loop-flip
invariant-loop-flip l = (before : List ℕ) → Tells l.initial.flags before → Tells l.flags (before ++ flat_map flip_uses (take l.flip-index l.flips))

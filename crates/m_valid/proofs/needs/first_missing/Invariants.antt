use Rattle.std.proofs.Common.{◌≡◌, ℕ, List, drop}
use Rattle.m_valid.specs.Validity.{first_broken, needs_hold}
use Rattle.m_valid.specs.Walk.{Tells}
use Rattle.m_valid.proofs.needs.first_missing.Given as goal

abbrev pub invariant-loop-i : goal.invariant-loop-i
invariant-loop-i l = (used rooted : List ℕ) → Tells l.uses used → Tells l.roots rooted → first_broken l.i (needs_hold used rooted l.i (drop l.i l.nodes)) ≡ first_broken 0 (needs_hold used rooted 0 l.nodes)

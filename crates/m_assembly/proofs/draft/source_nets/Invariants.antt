use Rattle.std.proofs.Common.{◌≡◌, ◌-◌, ◌++◌, ◌∷◌}
use Rattle.m_valid.specs.Assembly.{numbers}
use Rattle.m_assembly.proofs.draft.source_nets.Given as goal

abbrev pub invariant-loop-net : goal.invariant-loop-net
invariant-loop-net l = l.nets ++ numbers l.net (l.first - l.net) ≡ 0 ∷ numbers 2 (l.first - 2)

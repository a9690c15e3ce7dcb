use Rattle.std.proofs.Common.{◌≡◌, ◌++◌, replicate}
use Rattle.m_valid.specs.declared.nodes.Node.TheVariants.{Source}
use Rattle.m_valid.proofs.nodes.push_sources.Given as goal

abbrev pub invariant-loop-made : goal.invariant-loop-made
invariant-loop-made l = l.all.items ≡ l.initial.all.items ++ replicate l._made Source

use Rattle.std.proofs.Common.{subst, sym}
use Rattle.m_valid.specs.Nodes.{AllReadBefore}
use Rattle.m_valid.proofs.Numbering.{all_before}
use Rattle.m_valid.proofs.nodes.nodes_of.Goals as goal

pub returns-clause-before : goal.returns-clause-before
returns-clause-before c = subst AllReadBefore (sym c.in_ok-all.ensures) (all_before c.args.network.now c.gates-gates.ensures.formed)

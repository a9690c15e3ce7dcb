use Rattle.std.proofs.Common.{List, ap, ◌∙◌}
use Rattle.g_net.specs.declared.proposal.Line.{Line}
use Rattle.m_valid.specs.Plain.{plain_lines}
use Rattle.m_valid.specs.Validity.{verdict}
use Rattle.m_valid.proofs.Numbering.{all_before}
use Rattle.m_valid.proofs.Plainly.{plain_valid}
use Rattle.m_valid.proofs.mapping.plain.Goals as goal

pub returns-clause-valid : goal.returns-clause-valid
returns-clause-valid c =
    let lines = c.in_ok-lines.ensures ∙ ap (plain_lines 0) (c.as_slice.ensures.value ∙ c.in_ok-nodes.ensures.nodes) in
    ap (λ (ls : List Line). verdict c.args.network.now ls 6) lines ∙ plain_valid c.args.network.now (all_before c.args.network.now c.gates-gates.ensures.formed)

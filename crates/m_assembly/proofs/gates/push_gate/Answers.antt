use Rattle.std.proofs.Common.{◌≡◌, Option, OnOk, subst}
use Rattle.g_net.specs.declared.proposal.Line.{Line}
use Rattle.m_valid.specs.Assembly.{with_root}
use Rattle.m_assembly.proofs.Ascending.{line_met}
use Rattle.m_assembly.proofs.gates.push_gate.Goals as goal

pub returns-in-And : goal.returns-in-And
returns-in-And c =
    rw c.in-And.is (subst (λ (o : Option Line). OnOk c.push_root.result (c.push_root.new.self ≡ with_root c.args.draft.now o)) (line_met c.args.lines.now _ _ _ c.first_line.ensures.first c.node-node.ensures c.requires) c.push_root.ensures)

pub returns-in-Xor : goal.returns-in-Xor
returns-in-Xor c =
    rw c.in-Xor.is
    (subst (λ (o : Option Line). OnOk c.push_root-in-Xor.result (c.push_root-in-Xor.new.self ≡ with_root c.args.draft.now o)) (line_met c.args.lines.now _ _ _ c.first_line-in-Xor.ensures.first c.node-node.ensures c.requires) c.push_root-in-Xor.ensures)

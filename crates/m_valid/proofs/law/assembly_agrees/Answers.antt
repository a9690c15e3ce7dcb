use Rattle.std.proofs.Common.{◌++◌}
use Rattle.lz_base.specs.Bits.{words_bits}
use Rattle.g_net.specs.Walk.{values_of}
use Rattle.m_valid.proofs.Forming.{assembled_formed}
use Rattle.m_valid.proofs.Gating.{same_cycle}
use Rattle.m_valid.proofs.Realising.{realises}
use Rattle.m_valid.proofs.law.assembly_agrees.Goals as goal

pub returns-clause-formed : goal.returns-clause-formed
returns-clause-formed c = λ n lines most small valid formed. assembled_formed n lines most small valid formed

pub returns-clause-alike : goal.returns-clause-alike
returns-clause-alike c = λ n lines most inputs state small valid formed fit long.
    let bits = words_bits inputs ++ state in
    let many = c.node_after_node.ensures.bits n inputs state fit long in
    same_cycle n lines most inputs state (values_of n bits) small valid formed many (c.sources_first.ensures.count n bits many) (c.sources_first.ensures.constant n bits)
    (c.sources_first.ensures.source n bits) (c.node_after_node.ensures.valued n inputs state formed fit long).gates

pub returns-clause-realises : goal.returns-clause-realises
returns-clause-realises c = λ n lines most small valid formed.
    realises c.machine_step-2.ensures.alone c.machine_lasts-2.ensures.lasts c.machine_step.ensures.does c.machine_step.ensures.bits c.machine_lasts.ensures.begins n lines formed (assembled_formed n lines most small valid formed)
    (λ inputs state fit long.
    let bits = words_bits inputs ++ state in
    let many = c.node_after_node.ensures.bits n inputs state fit long in
    same_cycle n lines most inputs state (values_of n bits) small valid formed many (c.sources_first.ensures.count n bits many) (c.sources_first.ensures.constant n bits)
    (c.sources_first.ensures.source n bits) (c.node_after_node.ensures.valued n inputs state formed fit long).gates)

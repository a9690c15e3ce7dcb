use Rattle.std.proofs.Common.{◌∙◌}
use Rattle.m_assembly.proofs.Nexts.{numbers_more}
use Rattle.m_assembly.proofs.draft.source_nets.Goals as goal

pub loop-net-preserved : goal.loop-net-preserved
loop-net-preserved c = numbers_more _ _ c.loop-net.net c.args.first c.loop-net-test.true c.in_ok-push-2.ensures.ok ∙ c.loop-net.invariant

use Rattle.v_rules.proofs.Written.{again_begins, again_next, again_ends}
use Rattle.v_rules.proofs.variables.first_written_again.Goals as goal

pub loop-process-init : goal.loop-process-init
loop-process-init c = again_begins _ _ c.no_names-met.ensures

pub loop-process-preserved : goal.loop-process-preserved
loop-process-preserved c = again_next _ _ _ _ _ _ _ _ c.loop-process-test.true c.process-item.is c.in_ok-first.ensures c.loop-process.invariant

pub returns : goal.returns
returns c u seen = again_ends c.args.uses.now u _ _ _ _ c.as_slice-process-items.ensures c.loop-process-test.false c.loop-process.invariant seen

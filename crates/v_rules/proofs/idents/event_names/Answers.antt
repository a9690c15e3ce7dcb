use Rattle.std.proofs.Common.{refl}
use Rattle.v_rules.proofs.Rounds.{gathered, gathered_all}
use Rattle.v_rules.proofs.Gathered.{events_in, events_are}
use Rattle.v_rules.proofs.idents.event_names.Goals as goal

pub loop-process-preserved : goal.loop-process-preserved
loop-process-preserved c = gathered events_in events_in _ _ _ _ _ _ _ _ c.loop-process-test.true c.process-item.is refl c.in_ok-add_event.ensures c.loop-process.invariant

pub returns : goal.returns
returns c u seen = events_are c.args.uses.now u _ _ c.as_slice-process-items.ensures (gathered_all events_in _ _ _ _ c.loop-process-test.false refl c.loop-process.invariant) seen

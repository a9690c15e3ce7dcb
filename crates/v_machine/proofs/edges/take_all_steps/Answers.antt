use Rattle.std.proofs.Common.{◌≡◌, ap, sym, ◌∙◌, arith}
use Rattle.v_core.specs.SitedCores.{is_sited_stmt}
use Rattle.v_core.specs.declared.modules.TypedProcess.{TypedProcess}
use Rattle.v_core.specs.FormedCores.{is_formed_stmt}
use Rattle.v_values.specs.Moments.{Shape, fit}
use Rattle.v_values.specs.Writes.{all_fit}
use Rattle.v_machine.specs.Runnable.{process_counts}
use Rattle.v_machine.proofs.Lists.{next_is, one_of}
use Rattle.v_machine.proofs.Stepped.{counted_next, left_less, one_more, steps_next}
use Rattle.v_machine.proofs.edges.take_all_steps.Goals as goal

pub take_steps-requires : goal.take_steps-requires
take_steps-requires c =
    let next = next_is c.args.processes.now _ _ c.loop-process-test.true c.process-item.is in
    let same : c.loop-process.now.shape ≡ c.args.now.now.shape = c.loop-process.invariant.shape in
    record {
      formed = one_of (λ (p : TypedProcess). is_formed_stmt p.body c.args.names.now) c.args.processes.now _ _ c.loop-process-test.true c.process-item.is c.requires.formed;
      sited = ap (λ (s : Shape). is_sited_stmt c.process-item.result.body c.args.names.now s.sites) same
          ∙ one_of (λ (p : TypedProcess). is_sited_stmt p.body c.args.names.now c.args.now.now.shape.sites) c.args.processes.now _ _ c.loop-process-test.true c.process-item.is c.requires.sited;
      fits = ap (λ (s : Shape). fit s c.args.names.now) same ∙ c.requires.fits;
      counted = omega (arith, ap process_counts next, left_less c.args.processes.now c.loop-process.process-index, c.requires.counted);
      room = omega (arith, ap process_counts next, c.loop-process.invariant.few, c.loop-process.invariant.room, c.requires.room);
      queued = ap (λ (s : Shape). all_fit s c.loop-process.queue.writes) same ∙ c.loop-process.invariant.queued;
      place = omega (arith, c.loop-process-test.true, c.loop-process.invariant.counted, c.loop-process.invariant.places, c.requires.places);
    }

pub loop-process-preserved : goal.loop-process-preserved
loop-process-preserved c =
    let next = next_is c.args.processes.now _ _ c.loop-process-test.true c.process-item.is in
    record {
      finishes = steps_next c.args.names.now c.process-item.result _ _ _ _ _ next c.take_steps.ensures.finishes c.loop-process.invariant.finishes;
      queued = ap (λ (s : Shape). all_fit s c.take_steps.new.queue.writes) (sym c.loop-process.invariant.shape) ∙ c.take_steps.ensures.queued;
      shape = c.take_steps.ensures.shape ∙ c.loop-process.invariant.shape;
      few = omega (arith, ap process_counts next, c.loop-process.invariant.few, c.take_steps.ensures.few);
      room = c.take_steps.ensures.room ∙ c.loop-process.invariant.room;
      counts = counted_next c.args.names.now c.process-item.result _ _ _ _ _ _ _ next c.take_steps.ensures.finishes c.take_steps.ensures.counts c.loop-process.invariant.counts;
      counted = one_more c.process-item.result.clocked _ _ _ _ c.take_steps.ensures.counts c.loop-process.invariant.counted;
      places = c.take_steps.ensures.places ∙ c.loop-process.invariant.places;
    }

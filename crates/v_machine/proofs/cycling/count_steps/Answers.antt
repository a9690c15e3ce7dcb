use Rattle.std.proofs.Common.{◌≡◌, ap, ◌∙◌, arith, List, length}
use Rattle.v_core.specs.declared.modules.TypedProcess.{TypedProcess}
use Rattle.v_core.specs.Cores.{acts_where}
use Rattle.v_values.specs.Writes.{all_fit}
use Rattle.v_order.specs.Counting.{steps_in_order}
use Rattle.v_machine.specs.Runnable.{process_counts, shape_of}
use Rattle.v_machine.proofs.Runs.{names_fit, processes_formed, processes_sited}
use Rattle.v_machine.proofs.Stepped.{is_clocked}
use Rattle.v_machine.proofs.cycling.count_steps.Goals as goal

pub take_all_steps-requires : goal.take_all_steps-requires
take_all_steps-requires c =
    let shaped : c.begin.new.now.shape ≡ shape_of c.args.core.now = c.begin.ensures.shape ∙ c.requires.shape in
    record {
      formed = processes_formed c.args.core.now c.args.order.now c.requires.runs _ _ c.as_slice-2.ensures shaped _ c.as_slice.ensures;
      sited = processes_sited c.args.core.now c.args.order.now c.requires.runs _ _ c.as_slice-2.ensures shaped _ c.as_slice.ensures;
      fits = names_fit c.args.core.now c.args.order.now c.requires.runs _ _ c.as_slice-2.ensures shaped;
      counted = omega (arith, ap process_counts c.as_slice.ensures, c.requires.counted);
      room = omega (arith, ap process_counts c.as_slice.ensures, ap length c.requires.empty, c.requires.room);
      queued = ap (all_fit c.begin.new.now.shape) c.requires.empty;
      places = omega (arith, ap (λ (ps : List TypedProcess). length ps) c.as_slice.ensures, c.requires.places);
    }

pub returns-clause-counts : goal.returns-clause-counts
returns-clause-counts c =
    c.take_all_steps.ensures.counts ∙ (λ i. steps_in_order (acts_where is_clocked (c.as_slice-2.ensures i) (c.as_slice.ensures i)) (c.begin.ensures.view i))

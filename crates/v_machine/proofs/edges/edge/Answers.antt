use Rattle.std.proofs.Common.{ap, ◌∙◌, arith, length, List}
use Rattle.v_meaning.specs.Views.{View, Write}
use Rattle.v_core.specs.Cores.{acts_where}
use Rattle.v_values.specs.Moments.{Shape}
use Rattle.v_values.specs.Writes.{all_fit}
use Rattle.v_order.specs.Stepping.{all_finished, next_of}
use Rattle.v_machine.proofs.Stepped.{is_clocked, stored_is}
use Rattle.v_machine.proofs.edges.edge.Goals as goal

pub take_all_steps-requires : goal.take_all_steps-requires
take_all_steps-requires c = record {
  formed = c.requires.formed;
  sited = c.requires.sited;
  fits = c.requires.fits;
  counted = c.requires.counted;
  room = omega (arith, ap length c.requires.empty, c.requires.room);
  queued = ap (all_fit c.args.now.now.shape) c.requires.empty;
  places = c.requires.places;
}

pub apply_from-requires : goal.apply_from-requires
apply_from-requires c = record {
  within = omega arith;
  fit = ap (λ (s : Shape). all_fit s c.take_all_steps.new.queue.writes) c.take_all_steps.ensures.shape ∙ c.take_all_steps.ensures.queued;
}

pub returns-clause-next : goal.returns-clause-next
returns-clause-next c =
    ap (λ (v : View). v.store) c.apply_from.ensures.view ∙ stored_is c.take_all_steps.new.now.view c.take_all_steps.new.queue.writes
    ∙ ap next_of
    (c.take_all_steps.ensures.finishes
    ∙ ap (λ (ws : List Write). all_finished (acts_where is_clocked c.args.names.now c.args.processes.now) (record { view = c.args.now.now.view; queue = ws })) c.requires.empty)

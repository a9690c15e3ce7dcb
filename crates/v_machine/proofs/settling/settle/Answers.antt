use Rattle.std.proofs.Common.{ap, ◌∙◌, map}
use Rattle.std.specs.List.{list_all}
use Rattle.v_core.specs.declared.modules.TypedAssign.{TypedAssign}
use Rattle.v_core.specs.Cores.{assign_in}
use Rattle.v_core.specs.Sited.{is_sited}
use Rattle.v_values.specs.Moments.{Shape, fit}
use Rattle.v_machine.specs.Runnable.{is_measured}
use Rattle.v_machine.proofs.Computing.{settles_next}
use Rattle.v_machine.proofs.settling.settle.Goals as goal

pub compute-requires : goal.compute-requires
compute-requires c = record {
  formed = c.requires.formed;
  sited = ap (λ (s : Shape). list_all (λ (a : TypedAssign). is_sited a.value c.args.names.now s.sites) c.args.assigns.now) c.loop-number.invariant.shape ∙ c.requires.sited;
  measured = ap (λ (s : Shape). list_all (is_measured s) c.args.assigns.now) c.loop-number.invariant.shape ∙ c.requires.measured;
  fits = ap (λ (s : Shape). fit s c.args.names.now) c.loop-number.invariant.shape ∙ c.requires.fits;
}

pub loop-number-preserved : goal.loop-number-preserved
loop-number-preserved c = record {
  view = settles_next (map (assign_in c.args.names.now) c.args.assigns.now) c.args.order.now c.loop-number.number-index 0 _ _ _ c.loop-number-test.true c.compute.ensures.view
      c.loop-number.invariant.view;
  shape = c.compute.ensures.shape ∙ c.loop-number.invariant.shape;
}

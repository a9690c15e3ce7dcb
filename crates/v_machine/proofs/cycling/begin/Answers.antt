use Rattle.std.proofs.Common.{◌≡◌, ap, sym, ◌∙◌}
use Rattle.v_meaning.specs.Designs.{total}
use Rattle.v_values.specs.Moments.{Shape}
use Rattle.v_values.specs.Seen.{values_of}
use Rattle.v_machine.specs.Runnable.{shape_of}
use Rattle.v_machine.proofs.Beginning.{begins, inputs_are}
use Rattle.v_machine.proofs.Runs.{assigns_formed, assigns_sited, assigns_measured, names_fit}
use Rattle.v_machine.proofs.cycling.begin.Goals as goal

pub set_inputs-requires : goal.set_inputs-requires
set_inputs-requires c = record { widths = c.requires.inputs ∙ inputs_are c.args.core.now.names ∙ sym (ap (λ (s : Shape). s.inputs) c.requires.shape) }

pub set_sites-requires : goal.set_sites-requires
set_sites-requires c = record { bits = c.requires.choice ∙ sym (ap (λ (s : Shape). total s.sites) (c.set_inputs.ensures.shape ∙ c.requires.shape)) }

pub settle-requires : goal.settle-requires
settle-requires c =
    let shaped : c.clear_nets.new.self.shape ≡ shape_of c.args.core.now =
    c.clear_nets.ensures.shape ∙ c.set_sites.ensures.shape ∙ c.set_inputs.ensures.shape ∙ c.requires.shape in
    record {
      formed = assigns_formed c.args.core.now c.args.order.now c.requires.runs _ _ c.as_slice-2.ensures shaped _ c.as_slice.ensures;
      sited = assigns_sited c.args.core.now c.args.order.now c.requires.runs _ _ c.as_slice-2.ensures shaped _ c.as_slice.ensures;
      measured = assigns_measured c.args.core.now c.args.order.now c.requires.runs _ _ c.as_slice-2.ensures shaped _ c.as_slice.ensures;
      fits = names_fit c.args.core.now c.args.order.now c.requires.runs _ _ c.as_slice-2.ensures shaped;
    }

pub returns-clause-view : goal.returns-clause-view
returns-clause-view c =
    begins c.args.core.now c.args.order.now (values_of c.args.input.now) c.args.choice.now c.args.now.now.view _ _ _ _ c.set_inputs.new.self.shape c.set_sites.new.self.shape _ _
    c.set_inputs.ensures.view c.set_sites.ensures.view c.clear_nets.ensures.view (c.set_inputs.ensures.shape ∙ c.requires.shape)
    (c.set_sites.ensures.shape ∙ c.set_inputs.ensures.shape ∙ c.requires.shape) c.as_slice.ensures c.as_slice-2.ensures c.settle.ensures.view

use Rattle.std.proofs.Common.{◌<◌, sym, subst, ◌∙◌, arith, ℕ, length}
use Rattle.std.specs.Prelude.{◌^◌}
use Rattle.v_core.specs.declared.modules.TypedAssign.{TypedAssign}
use Rattle.v_core.specs.Formed.{formed}
use Rattle.v_core.specs.Sited.{is_sited}
use Rattle.v_machine.specs.Runnable.{is_measured}
use Rattle.v_machine.proofs.Computing.{computes, computes_nothing, measured_within, measured_same}
use Rattle.v_machine.proofs.Lists.{one_of}
use Rattle.v_machine.proofs.settling.compute.Goals as goal

pub value-word-requires : goal.value-word-requires
value-word-requires c =
    let within : c.args.number < length c.args.assigns.now = omega arith in
    record {
      kept = one_of (λ (a : TypedAssign). (formed a.value c.args.names.now).kept) c.args.assigns.now c.args.number c.index-assigns-number.result within c.index-assigns-number.is c.requires.formed;
      sited = one_of (λ (a : TypedAssign). is_sited a.value c.args.names.now c.args.now.now.shape.sites) c.args.assigns.now c.args.number c.index-assigns-number.result within c.index-assigns-number.is c.requires.sited;
      fits = c.requires.fits;
    }

pub cut-requires : goal.cut-requires
cut-requires c =
    let within : c.args.number < length c.args.assigns.now = omega arith in
    measured_within c.args.now.now.shape c.index-assigns-number.result
    (one_of (is_measured c.args.now.now.shape) c.args.assigns.now c.args.number c.index-assigns-number.result within c.index-assigns-number.is c.requires.measured)

pub set_net-requires : goal.set_net-requires
set_net-requires c =
    let within : c.args.number < length c.args.assigns.now = omega arith in
    record {
      fits = subst (λ (w : ℕ). c.cut.result < 2 ^ w)
          (sym (measured_same c.args.now.now.shape c.index-assigns-number.result
          (one_of (is_measured c.args.now.now.shape) c.args.assigns.now c.args.number c.index-assigns-number.result within c.index-assigns-number.is c.requires.measured)))
          c.cut.ensures.below;
    }

pub returns-then-number-assigns-clause-view : goal.returns-then-number-assigns-clause-view
returns-then-number-assigns-clause-view c =
    let within : c.args.number < length c.args.assigns.now = omega arith in
    c.set_net.ensures.view
    ∙ computes c.args.names.now c.args.assigns.now c.args.number c.index-assigns-number.result c.index-assigns-number.result c.args.now.now.view
    c.value-word.result c.cut.result within c.index-assigns-number.is c.value-word.ensures.value c.cut.ensures.value

pub returns-else-number-assigns-clause-view : goal.returns-else-number-assigns-clause-view
returns-else-number-assigns-clause-view c = computes_nothing c.args.names.now c.args.assigns.now c.args.number c.args.now.now.view (omega arith)

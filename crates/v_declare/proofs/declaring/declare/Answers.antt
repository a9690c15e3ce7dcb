use Rattle.std.proofs.Common.{refl, ◌∙◌}
use Rattle.v_declare.proofs.WholeModule.{walked, refused, parameters_stop, ports_stop, items_stop, no_fault_in, names_are}
use Rattle.v_declare.proofs.declaring.declare.Goals as goal

pub returns-in_err-declare_all_parameters-clause-refused : goal.returns-in_err-declare_all_parameters-clause-refused
returns-in_err-declare_all_parameters-clause-refused c =
    let m = c.args.module.now in
    refused m c.from_residual-in_err-declare_all_parameters.result _ c.from_residual-in_err-declare_all_parameters.ensures.1
    (parameters_stop m _ _ _ m.ports _ _
    (walked m _ _ _ _ _ c.in_ok-roles.ensures c.new-names.ensures c.as_slice.ensures refl c.as_slice-items.ensures)
    c.in_err-declare_all_parameters.ensures.judged)

pub returns-in_err-declare_all_ports-clause-refused : goal.returns-in_err-declare_all_ports-clause-refused
returns-in_err-declare_all_ports-clause-refused c =
    let m = c.args.module.now in
    refused m c.from_residual-in_err-declare_all_ports.result _ c.from_residual-in_err-declare_all_ports.ensures.1
    (ports_stop m _ _ _ _ _ _ _
    (walked m _ _ _ _ _ c.in_ok-roles.ensures c.new-names.ensures c.as_slice.ensures c.as_slice-2.ensures c.as_slice-items.ensures)
    c.in_ok-declare_all_parameters.ensures.judged c.in_ok-declare_all_parameters.ensures.behind c.in_err-declare_all_ports.ensures.judged)

pub returns-in_err-declare_items-clause-refused : goal.returns-in_err-declare_items-clause-refused
returns-in_err-declare_items-clause-refused c =
    let m = c.args.module.now in
    refused m c.from_residual-in_err-declare_items.result _ c.from_residual-in_err-declare_items.ensures.1
    (items_stop m _ _ _ _ _ _ _ _
    (walked m _ _ _ _ _ c.in_ok-roles.ensures c.new-names.ensures c.as_slice.ensures c.as_slice-2.ensures c.as_slice-items.ensures)
    c.in_ok-declare_all_parameters.ensures.judged c.in_ok-declare_all_parameters.ensures.behind c.in_ok-declare_all_ports.ensures.judged c.in_ok-declare_all_ports.ensures.behind
    c.in_err-declare_items.ensures.judged)

pub returns-clause-accepted : goal.returns-clause-accepted
returns-clause-accepted c =
    let m = c.args.module.now in (
      no_fault_in m _ _ _ _ _ _ _
          (walked m _ _ _ _ _ c.in_ok-roles.ensures c.new-names.ensures c.as_slice.ensures c.as_slice-2.ensures c.as_slice-items.ensures)
          c.in_ok-declare_all_parameters.ensures.judged c.in_ok-declare_all_parameters.ensures.behind c.in_ok-declare_all_ports.ensures.judged c.in_ok-declare_all_ports.ensures.behind
          c.in_ok-declare_items.ensures.judged,
      c.into_names.ensures ∙ names_are m _ _ _ _ _ _ _ _
          (walked m _ _ _ _ _ c.in_ok-roles.ensures c.new-names.ensures c.as_slice.ensures c.as_slice-2.ensures c.as_slice-items.ensures)
          c.in_ok-declare_all_parameters.ensures.behind c.in_ok-declare_all_ports.ensures.behind c.in_ok-declare_items.ensures.behind,
    )

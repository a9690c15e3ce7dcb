use Rattle.std.proofs.Common.{arith, ap, ◌∙◌}
use Rattle.v_syntax.specs.Small.{input_names, register_names}
use Rattle.s_flow.proofs.Names.{length_names_in}
use Rattle.s_flow.proofs.Follow.{bits_of_ports, flops_long}
use Rattle.s_flow.proofs.Lines.{inputs_distinct, outputs_distinct, reads_below, value_there_below, flops_below}
use Rattle.s_flow.proofs.making.build.Goals as goal

pub push_inputs-requires-clause-distinct : goal.push_inputs-requires-clause-distinct
push_inputs-requires-clause-distinct c =
    rw (c.new-maker.ensures, c.as_slice-3.ensures.value, c.in_ok-inputs_of.ensures, c.as_slice.ensures, c.in_ok-clock.ensures.cases) (inputs_distinct c.args.small.now c.requires)

pub push_cell-requires-clause-there : goal.push_cell-requires-clause-there
push_cell-requires-clause-there c =
    rw (c.in_ok-push_flips.ensures, c.in_ok-push_inputs.ensures, c.new-maker.ensures, c.as_slice-3.ensures.value, c.as_slice-4.ensures.value, c.in_ok-inputs_of.ensures, c.in_ok-registers_of.ensures, c.as_slice.ensures, c.as_slice-2.ensures)
    (reads_below c.args.small.now _ _ (omega (arith, bits_of_ports, flops_long)) c.requires.reads)

pub push_outputs-requires-clause-distinct : goal.push_outputs-requires-clause-distinct
push_outputs-requires-clause-distinct c =
    rw (c.in_ok-push_cell.ensures, c.in_ok-push_flips.ensures, c.in_ok-push_inputs.ensures, c.new-maker.ensures, c.as_slice-3.ensures.value, c.as_slice-5.ensures.value, c.in_ok-inputs_of.ensures, c.in_ok-registers_of.ensures)
    (outputs_distinct c.args.small.now _ _ _ c.requires c.in_ok-clock.ensures.cases c.as_slice.ensures c.as_slice-2.ensures)

pub push_outputs-requires-clause-there : goal.push_outputs-requires-clause-there
push_outputs-requires-clause-there c =
    rw (c.in_ok-push_cell.ensures, c.in_ok-push_flips.ensures, c.in_ok-push_inputs.ensures, c.new-maker.ensures)
    (omega (arith, bits_of_ports, flops_long, length_names_in, c.len.ensures, c.as_slice-3.ensures.value, c.as_slice-4.ensures.len, c.as_slice-5.ensures.len))

pub finish-requires : goal.finish-requires
finish-requires c =
    rw (c.in_ok-push_outputs.ensures, c.in_ok-push_cell.ensures, c.in_ok-push_flips.ensures, c.in_ok-push_inputs.ensures, c.new-maker.ensures)
    (flops_below _ _ _ _ _ (omega arith) (omega (arith, bits_of_ports, flops_long, length_names_in, c.len.ensures, c.as_slice-3.ensures.value, c.as_slice-4.ensures.len))
    (value_there_below c.args.small.now _ _ _ _ c.requires (c.in_ok-inputs_of.ensures ∙ ap input_names c.as_slice.ensures) (c.in_ok-registers_of.ensures ∙ ap register_names c.as_slice-2.ensures) c.value_net-net.ensures
    (omega (arith, bits_of_ports, flops_long, length_names_in, c.len.ensures, c.as_slice-3.ensures.value, c.as_slice-4.ensures.value))))

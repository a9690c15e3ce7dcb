use Rattle.std.proofs.Common.{◌≡◌, slice_get, get_or, Some, length, ◌∙◌, ap, sym, arith, ◌<◌}
use Rattle.lz_base.specs.declared.name.Port.{Port}
use Rattle.lz_base.specs.Names.{IsName}
use Rattle.lz_base.proofs.Lists.{item_or}
use Rattle.lz_lines.proofs.Listed.{each_next, goes_out}
use Rattle.n_text.proofs.Forming.{outputs_next}
use Rattle.n_text.proofs.Outputs.{output_lines_next}
use Rattle.n_text.proofs.Spelling.{within_bound}
use Rattle.n_text.proofs.printing.push_outputs.Goals as goal

pub loop-i-preserved : goal.loop-i-preserved
loop-i-preserved c =
    let ports = c.args.netlist.now.outputs in
    let nets = c.args.netlist.now.nets in
    let outputs = c.outputs-outputs.result.now in
    let i = c.loop-i.i in
    let bound : i < length outputs = omega arith in
    let here : slice_get ports i ≡ Some (get_or outputs i c.index-outputs-i.result) = ap (λ ps. slice_get ps i) (sym c.outputs-outputs.ensures.ports) ∙ item_or outputs i c.index-outputs-i.result bound in
    record {
      text = goes_out _ _ _ _ _ _ c.in_ok-push_output.ensures.text c.loop-i.invariant.text (output_lines_next ports nets i _ _ here c.output_nets.ensures.nets);
      named = each_next (λ (p : Port). IsName p.name) ports i _ c.loop-i.invariant.named here c.in_ok-push_output.ensures.named;
      below = outputs_next _ nets i _ c.loop-i.invariant.below c.output_nets.ensures.nets (within_bound _ c.in_ok-push_output.ensures.small);
    }

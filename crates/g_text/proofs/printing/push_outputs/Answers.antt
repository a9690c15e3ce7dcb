use Rattle.std.proofs.Common.{◌≡◌, List, ℕ, Some, slice_get, subst, sym}
use Rattle.std.specs.Option.{option_map}
use Rattle.lz_lines.proofs.Listed.{each_next, flat_map_next, goes_out}
use Rattle.g_net.specs.declared.network.Output.{Output}
use Rattle.g_text.specs.Form.{IsOutput}
use Rattle.g_text.specs.Text.{named_line}
use Rattle.g_text.proofs.Filling.{whole_output}
use Rattle.g_text.proofs.printing.push_outputs.Goals as goal

pub loop-i-preserved : goal.loop-i-preserved
loop-i-preserved c =
    let outputs = c.args.network.now.outputs in
    let o : Output = record { name = c.output_name.result.now; literals = c.output_literals.result.now } in
    let there : slice_get outputs c.loop-i.i ≡ Some o = whole_output outputs c.loop-i.i c.output_name.result.now c.output_literals.result.now c.output_name.ensures c.output_literals.ensures.literals in
    record {
      text = goes_out _ _ _ _ _ _ c.in_ok-push_output.ensures.text c.loop-i.invariant.text (flat_map_next named_line outputs c.loop-i.i o there);
      formed = each_next IsOutput outputs c.loop-i.i o c.loop-i.invariant.formed there (c.in_ok-push_output.ensures.named, c.output_literals.ensures.low, c.output_literals.ensures.high, c.in_ok-push_output.ensures.small);
    }

use Rattle.std.proofs.Common.{◌<◌, ◌≤◌, length, slice_index_or, arith}
use Rattle.std.proofs.lemmas.Grind.{common_steps}
use Rattle.lz_lines.specs.Fields.{greatest}
use Rattle.lz_lines.proofs.Listed.{up_to_next}
use Rattle.lz_lines.proofs.shared.push_numbers.Goals as goal

pub loop-n-preserved : goal.loop-n-preserved
loop-n-preserved c =
    let ns = c.args.ns.now in
    let i = c.loop-n.n-index in
    let within : i < length ns = omega arith in
    let one : slice_index_or ns i 0 ≤ greatest = omega (arith, c.type_inv.ns i) in
    record {
      text = grind (arith, common_steps);
      small = up_to_next _ ns i _ c.loop-n.invariant.small within one;
    }

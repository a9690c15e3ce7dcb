use Rattle.std.proofs.Common.{◌≡◌, ◌++◌, take, flat_map}
use Rattle.n_cells.specs.declared.format.Format.TheVariants.{Two}
use Rattle.n_cells.specs.Text.{flop_line}
use Rattle.n_cells.specs.Netlist.{FlopsBelow}
use Rattle.n_cells.specs.Form.{bound}
use Rattle.n_text.proofs.printing.push_flops.Given as goal

abbrev pub invariant-loop-flop : goal.invariant-loop-flop
invariant-loop-flop l = record {
  text : l.out.items ≡ l.initial.out.items ++ flat_map (flop_line Two) (take l.flop-index l.flops);
  below : FlopsBelow bound (take l.flop-index l.flops);
}

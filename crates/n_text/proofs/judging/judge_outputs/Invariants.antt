use Rattle.std.proofs.Common.{◌≡◌, ◌+◌, drop, length, List, ℕ}
use Rattle.n_cells.specs.Netlist.{FillOutputs}
use Rattle.n_cells.specs.Text.{output_lines}
use Rattle.lz_base.specs.Met.{Met}
use Rattle.n_text.specs.Referred.{wrong_outputs}
use Rattle.n_text.proofs.judging.judge_outputs.Given as goal

abbrev pub invariant-loop-i : goal.invariant-loop-i
invariant-loop-i l = record {
  place : l.at + length (output_lines (drop l.i l.ports) (drop l.i l.nets)) ≡ l.initial.at + length (output_lines l.ports l.nets);
  filled : FillOutputs (drop l.i l.ports) (drop l.i l.nets);
  names : (names : List (List ℕ)) → Met l.initial.met names
      → (known : List (List ℕ)) × Met l.met known × (wrong_outputs names l.count l.initial.at l.ports l.nets ≡ wrong_outputs known l.count l.at (drop l.i l.ports) (drop l.i l.nets));
}

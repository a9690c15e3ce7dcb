use Rattle.std.proofs.Common.{◌≡◌, ◌+◌, drop, length, flat_map, List, ℕ}
use Rattle.lz_base.specs.Met.{Met}
use Rattle.g_text.specs.Referred.{wrong_outputs}
use Rattle.g_text.specs.Text.{named_line}
use Rattle.g_text.proofs.judging.judge_outputs.Given as goal

abbrev pub invariant-loop-output : goal.invariant-loop-output
invariant-loop-output l = record {
  place : l.at + length (flat_map named_line (drop l.output-index l.outputs)) ≡ l.initial.at + length (flat_map named_line l.outputs);
  names : (names : List (List ℕ)) → Met l.initial.met names
      → (known : List (List ℕ)) × Met l.met known × (wrong_outputs names l.count l.initial.at l.outputs ≡ wrong_outputs known l.count l.at (drop l.output-index l.outputs));
}

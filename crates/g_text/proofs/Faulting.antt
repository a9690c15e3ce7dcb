-- Where the first wrong reference stands.
use Rattle.std.proofs.Common.{◌≡◌, ℕ, ◌+◌, ◌≤◌, ◌^◌, List, [], ◌∷◌, ◌++◌, length, flat_map, map, arith}
use Rattle.std.proofs.lemmas.List.{length-append}
use Rattle.std.specs.Option.{option_to_list}
use Rattle.lz_base.specs.declared.name.Port.{Port}
use Rattle.lz_base.specs.declared.rule.Rule.TheVariants.{G2}
use Rattle.lz_lines.specs.References.{wrong_inputs}
use Rattle.lz_lines.specs.Shared.{clock_line, input_line}
use Rattle.lz_lines.proofs.Faulting.{Judged, room_of}
use Rattle.g_net.specs.Network.{NetworkValue, first_gate, node_count}
use Rattle.g_text.specs.Raw.{model_line}
use Rattle.g_text.specs.Referred.{wrong_flips, wrong_gates, wrong_outputs, inputs_at, outputs_at}
use Rattle.g_text.specs.Text.{flip_line, gate_line, head, named_line, text}
use Rattle.g_text.proofs.Wholes.{text_is}

pub model_length : (name : List ℕ) → length (model_line name) ≡ 17 + length name
model_length name = let e = length-append name (10 ∷ []) in omega (arith, e)

-- the lines of all kinds have room in the text
pub room : (n : NetworkValue) → length (text n) ≤ 2 ^ 28 → outputs_at n + length (flat_map named_line n.outputs) ≤ 2 ^ 28
room n h =
    room_of (text n) head n.name (clock_line n.clock) (flat_map input_line n.inputs) (flat_map flip_line n.flips) (flat_map gate_line n.gates) (flat_map named_line n.outputs) (2 ^ 28) (text_is n) h

-- what is judged of a network
abbrev pub judged : NetworkValue → Judged
judged n = record {
  rule = G2;
  count = node_count n;
  first = first_gate n;
  place = inputs_at n;
  inputs_size = length (flat_map input_line n.inputs);
  flops_size = length (flat_map flip_line n.flips);
  cells_size = length (flat_map gate_line n.gates);
  inputs = λ at_. wrong_inputs (option_to_list n.clock) at_ n.inputs;
  flops = λ count at_. wrong_flips count at_ n.flips;
  cells = λ first at_. wrong_gates first at_ n.gates;
  outputs = λ count at_. wrong_outputs (option_to_list n.clock ++ map (λ (p : Port). p.name) n.inputs) count at_ n.outputs;
}

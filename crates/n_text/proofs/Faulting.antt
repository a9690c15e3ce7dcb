-- Where the first wrong reference stands.
use Rattle.std.proofs.Common.{◌≡◌, ℕ, ◌+◌, ◌≤◌, ◌^◌, List, [], ◌∷◌, ◌++◌, length, flat_map, map, arith}
use Rattle.std.proofs.lemmas.List.{length-append}
use Rattle.std.specs.Option.{option_to_list}
use Rattle.lz_base.specs.declared.name.Port.{Port}
use Rattle.lz_base.specs.declared.rule.Rule.TheVariants.{N2}
use Rattle.lz_lines.specs.References.{wrong_inputs}
use Rattle.lz_lines.specs.Shared.{clock_line, input_line}
use Rattle.lz_lines.proofs.Faulting.{Judged, room_of}
use Rattle.n_cells.specs.declared.format.Format.{Format}
use Rattle.n_cells.specs.declared.format.Format.TheVariants as format_
use Rattle.n_cells.specs.Netlist.{NetlistValue, first_net, net_count}
use Rattle.n_cells.specs.Text.{flop_line, cell_line, output_lines, text}
use Rattle.n_text.specs.Raw.{head, model_line}
use Rattle.n_text.specs.Referred.{wrong_flops, wrong_cells, wrong_outputs, inputs_at, outputs_at}
use Rattle.n_text.proofs.Wholes.{text_is}

pub model_length : (format : Format) (name : List ℕ) → length (model_line format name) ≡ 16 + length name
model_length format_.One name = let e = length-append name (10 ∷ []) in omega (arith, e)
model_length format_.Two name = let e = length-append name (10 ∷ []) in omega (arith, e)

-- the lines of all kinds have room in the text
pub room : (format : Format) (n : NetlistValue) → length (text format n) ≤ 2 ^ 28 → outputs_at format n + length (output_lines n.outputs n.nets) ≤ 2 ^ 28
room format n h =
    let ins = flat_map input_line n.inputs in
    let flops = flat_map (flop_line format) n.flops in
    let cells = flat_map cell_line n.cells in
    room_of (text format n) (head format) n.name (clock_line n.clock) ins flops cells (output_lines n.outputs n.nets) (2 ^ 28) (text_is format n) h

-- what is judged of a netlist
abbrev pub judged : Format → NetlistValue → Judged
judged format n = record {
  rule = N2;
  count = net_count n;
  first = first_net n.inputs n.flops;
  place = inputs_at format n;
  inputs_size = length (flat_map input_line n.inputs);
  flops_size = length (flat_map (flop_line format) n.flops);
  cells_size = length (flat_map cell_line n.cells);
  inputs = λ at_. wrong_inputs (option_to_list n.clock) at_ n.inputs;
  flops = λ count at_. wrong_flops format count at_ n.flops;
  cells = λ first at_. wrong_cells first at_ n.cells;
  outputs = λ count at_. wrong_outputs (option_to_list n.clock ++ map (λ (p : Port). p.name) n.inputs) count at_ n.outputs n.nets;
}

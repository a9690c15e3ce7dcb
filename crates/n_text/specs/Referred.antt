-- Where a netlist's text breaks the rule on references: the places of its wrong numbers and repeated names, in the order
-- of the text. A place is counted in bytes, from 0.
use Rattle.std.specs.Prelude.{ℕ, ◌+◌, List, [], ◌∷◌, ◌++◌, length, map, flat_map}
use Rattle.std.specs.Option.{option_to_list}
use Rattle.lz_base.specs.declared.name.Port.{Port}
use Rattle.lz_lines.specs.Fields.{number}
use Rattle.lz_lines.specs.References.{wrong_inputs, wrong_numbers, wrong_output}
use Rattle.lz_lines.specs.Shared.{clock_line, input_line, output_line}
use Rattle.n_cells.specs.declared.format.Format.{Format}
use Rattle.n_cells.specs.declared.format.Format.TheVariants.{One, Two}
use Rattle.n_cells.specs.declared.netlist.Flop.{Flop}
use Rattle.n_cells.specs.declared.netlist.Stored.{Stored}
use Rattle.n_cells.specs.declared.netlist.Stored.TheVariants.{Lut, Carry}
use Rattle.n_cells.specs.Netlist.{NetlistValue, net_count, first_net, nets_of}
use Rattle.n_cells.specs.Text.{flop_line, cell_line}
use Rattle.n_text.specs.Raw.{model_line}

-- the nets that a flip-flop's line names: the one that it takes, and in format 2 its enable
abbrev pub flop_nets : Format → Flop → List ℕ
flop_nets One f = f.net ∷ []
flop_nets Two f = f.net ∷ f.enable ∷ []

-- Lines of flip-flops: the nets stand behind `ff` and a bit, and each is one of so many.
abbrev pub wrong_flops : Format → ℕ → ℕ → List Flop → List ℕ
wrong_flops format count at_ [] = []
wrong_flops format count at_ (f ∷ fs) = wrong_numbers count (at_ + 4) (flop_nets format f) ++ wrong_flops format count (at_ + length (flop_line format f)) fs

-- The line of a cell whose first net has this number: each net that it reads is smaller.
abbrev pub wrong_cell : ℕ → ℕ → Stored → List ℕ
wrong_cell next at_ (Lut leaves table) = wrong_numbers next (at_ + 3 + length (number (length leaves))) leaves
wrong_cell next at_ (Carry a b c) = wrong_numbers next (at_ + 5) (a ∷ b ∷ c ∷ [])

abbrev pub wrong_cells : ℕ → ℕ → List Stored → List ℕ
wrong_cells next at_ [] = []
wrong_cells next at_ (c ∷ cs) = wrong_cell next at_ c ++ wrong_cells (next + nets_of c) (at_ + length (cell_line c)) cs

-- Lines of outputs behind these names: each net is one of so many.
abbrev pub wrong_outputs : List (List ℕ) → ℕ → ℕ → List Port → List (List ℕ) → List ℕ
wrong_outputs names count at_ [] nets = []
wrong_outputs names count at_ (p ∷ ps) [] = []
wrong_outputs names count at_ (p ∷ ps) (ns ∷ more) =
    wrong_output names count at_ p.name ns ++ wrong_outputs (names ++ p.name ∷ []) count (at_ + length (output_line p.name ns)) ps more

-- the places at which the lines of each kind begin
abbrev pub inputs_at : Format → NetlistValue → ℕ
inputs_at format n = length (model_line format n.name) + length (clock_line n.clock)

abbrev pub flops_at : Format → NetlistValue → ℕ
flops_at format n = inputs_at format n + length (flat_map input_line n.inputs)

abbrev pub cells_at : Format → NetlistValue → ℕ
cells_at format n = flops_at format n + length (flat_map (flop_line format) n.flops)

abbrev pub outputs_at : Format → NetlistValue → ℕ
outputs_at format n = cells_at format n + length (flat_map cell_line n.cells)

-- all wrong numbers and repeated names
abbrev pub wrong_places : Format → NetlistValue → List ℕ
wrong_places format n =
    wrong_inputs (option_to_list n.clock) (inputs_at format n) n.inputs
    ++ wrong_flops format (net_count n) (flops_at format n) n.flops
    ++ wrong_cells (first_net n.inputs n.flops) (cells_at format n) n.cells
    ++ wrong_outputs (option_to_list n.clock ++ map (λ p. p.name) n.inputs) (net_count n) (outputs_at format n) n.outputs n.nets

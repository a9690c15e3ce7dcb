-- A netlist whose lines were read, whatever its nets and names refer to.
use Rattle.std.specs.Prelude.{ℕ, List, [], ◌∷◌, ◌++◌, codes, None, Some}
use Rattle.lz_lines.specs.Sections.{sections}
use Rattle.n_cells.specs.declared.format.Format.{Format}
use Rattle.n_cells.specs.Netlist.{NetlistValue}
use Rattle.n_cells.specs.Text.{first_line, flop_line, cell_line, output_lines}
use Rattle.n_text.specs.declared.line.Line.{Line}
use Rattle.n_text.specs.declared.line.Line.TheVariants.{Clock, Input, Flop, Cell, Output}

abbrev pub bare : List ℕ → NetlistValue
bare name = record { name = name; clock = None; inputs = []; flops = []; cells = []; outputs = []; nets = [] }

-- one line more
abbrev pub with_line : NetlistValue → Line → NetlistValue
with_line n (Clock name) = record n { clock = Some name }
with_line n (Input p) = record n { inputs = n.inputs ++ p ∷ [] }
with_line n (Flop f) = record n { flops = n.flops ++ f ∷ [] }
with_line n (Cell c) = record n { cells = n.cells ++ c ∷ [] }
with_line n (Output p nets) = record n { outputs = n.outputs ++ p ∷ []; nets = n.nets ++ nets ∷ [] }

-- the lines between the model's and the end
abbrev pub body : Format → NetlistValue → List ℕ
body format n = sections (flop_line format) cell_line n.clock n.inputs n.flops n.cells (output_lines n.outputs n.nets)

-- the first line, and the model's up to its name
abbrev pub head : Format → List ℕ
head format = first_line format ++ codes "model"

abbrev pub model_line : Format → List ℕ → List ℕ
model_line format name = head format ++ 32 ∷ name ++ 10 ∷ []

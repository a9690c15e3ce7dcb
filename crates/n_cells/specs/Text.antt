-- The one spelling of a netlist in each format.
use Rattle.std.specs.Prelude.{ℕ, ◌^◌, List, [], ◌∷◌, ◌++◌, length, flat_map, codes}
use Rattle.lz_base.specs.declared.name.Port.{Port}
use Rattle.lz_lines.specs.Fields.{field, number, hex, bit}
use Rattle.lz_lines.specs.Shared.{clock_line, input_line, output_line}
use Rattle.n_cells.specs.declared.format.Format.{Format}
use Rattle.n_cells.specs.declared.format.Format.TheVariants.{One, Two}
use Rattle.n_cells.specs.declared.netlist.Flop.{Flop}
use Rattle.n_cells.specs.declared.netlist.Stored.{Stored}
use Rattle.n_cells.specs.declared.netlist.Stored.TheVariants.{Lut, Carry}
use Rattle.n_cells.specs.Netlist.{NetlistValue}

-- ff BIT NET, and in format 2 ENABLE
abbrev pub flop_line : Format → Flop → List ℕ
flop_line One f = codes "ff" ++ bit f.first ++ number f.net ++ 10 ∷ []
flop_line Two f = codes "ff" ++ bit f.first ++ number f.net ++ number f.enable ++ 10 ∷ []

-- lut K NET .. TABLE, or carry NET NET NET
abbrev pub cell_line : Stored → List ℕ
cell_line (Lut leaves table) = codes "lut" ++ number (length leaves) ++ flat_map number leaves ++ field (hex (2 ^ length leaves) table) ++ 10 ∷ []
cell_line (Carry a b c) = codes "carry" ++ number a ++ number b ++ number c ++ 10 ∷ []

-- output NAME NET .., bit 0 first
abbrev pub output_lines : List Port → List (List ℕ) → List ℕ
output_lines [] nets = []
output_lines (p ∷ ps) [] = []
output_lines (p ∷ ps) (n ∷ ns) = output_line p.name n ++ output_lines ps ns

-- lutnet and the format's number
abbrev pub first_line : Format → List ℕ
first_line One = codes "lutnet 1" ++ 10 ∷ []
first_line Two = codes "lutnet 2" ++ 10 ∷ []

-- the whole text
abbrev pub text : Format → NetlistValue → List ℕ
text format n = first_line format ++ codes "model" ++ field n.name ++ 10 ∷ clock_line n.clock ++ flat_map input_line n.inputs ++ flat_map (flop_line format) n.flops
    ++ flat_map cell_line n.cells ++ output_lines n.outputs n.nets ++ codes "end" ++ 10 ∷ []

-- The whole text: the first lines, the lines that a netlist has, and the end.
use Rattle.std.proofs.Common.{◌≡◌, ℕ, List, [], ◌∷◌, ◌++◌, flat_map, ap, ◌∙◌, append_assoc}
use Rattle.std.specs.Prelude.{codes}
use Rattle.lz_lines.specs.Fields.{field}
use Rattle.lz_lines.specs.Shared.{clock_line, input_line}
use Rattle.lz_lines.proofs.Sections.{behind_name}
use Rattle.lz_lines.specs.Sections.{end_line}
use Rattle.n_cells.specs.declared.format.Format.{Format}
use Rattle.n_cells.specs.Netlist.{NetlistValue}
use Rattle.n_cells.specs.Text.{flop_line, cell_line, output_lines, text}
use Rattle.n_text.specs.Raw.{head, body}

pub text_is : (format : Format) (n : NetlistValue) → text format n ≡ head format ++ (field n.name ++ 10 ∷ (body format n ++ end_line))
text_is format n =
    let a = head format ++ field n.name in
    let i = flat_map input_line n.inputs in
    let f = flat_map (flop_line format) n.flops in
    let l = flat_map cell_line n.cells in
    let o = output_lines n.outputs n.nets in
    behind_name a (clock_line n.clock) i f l o (codes "end") (10 ∷ [])
    ∙ append_assoc (head format) (field n.name) (10 ∷ (body format n ++ end_line))

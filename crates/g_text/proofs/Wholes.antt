-- The whole text: the first lines, the lines that a network has, and the end.
use Rattle.std.proofs.Common.{◌≡◌, ℕ, List, [], ◌∷◌, ◌++◌, flat_map, ap, ◌∙◌, append_assoc}
use Rattle.std.specs.Prelude.{codes}
use Rattle.lz_lines.specs.Fields.{field}
use Rattle.lz_lines.specs.Shared.{clock_line, input_line}
use Rattle.lz_lines.specs.Sections.{end_line}
use Rattle.lz_lines.proofs.Sections.{behind_name}
use Rattle.g_net.specs.Network.{NetworkValue}
use Rattle.g_text.specs.Raw.{body}
use Rattle.g_text.specs.Text.{flip_line, gate_line, head, named_line, text}

pub text_is : (n : NetworkValue) → text n ≡ head ++ (field n.name ++ 10 ∷ (body n ++ end_line))
text_is n =
    behind_name (head ++ field n.name) (clock_line n.clock) (flat_map input_line n.inputs) (flat_map flip_line n.flips) (flat_map gate_line n.gates) (flat_map named_line n.outputs) (codes "end") (10 ∷ [])
    ∙ append_assoc head (field n.name) (10 ∷ (body n ++ end_line))

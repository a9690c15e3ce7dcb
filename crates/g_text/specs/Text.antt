-- The one spelling of a network.
use Rattle.std.specs.Prelude.{ℕ, List, [], ◌∷◌, ◌++◌, flat_map, codes}
use Rattle.lz_lines.specs.Fields.{bit, field, number}
use Rattle.lz_lines.specs.Shared.{clock_line, input_line, output_line}
use Rattle.g_net.specs.declared.network.Flip.{Flip}
use Rattle.g_net.specs.declared.network.Gate.{Gate}
use Rattle.g_net.specs.declared.network.Gate.TheVariants.{And, Xor, Carry}
use Rattle.g_net.specs.declared.network.Output.{Output}
use Rattle.g_net.specs.Network.{NetworkValue}

-- the first line, and the model's up to its name
abbrev pub head : List ℕ
head = codes "network 2" ++ 10 ∷ codes "model"

-- ff BIT LIT LIT: the literal that is taken, and the enable
abbrev pub flip_line : Flip → List ℕ
flip_line f = codes "ff" ++ bit f.first ++ number f.literal ++ number f.enable ++ 10 ∷ []

-- and LIT LIT, xor LIT LIT, or carry LIT LIT LIT
abbrev pub gate_line : Gate → List ℕ
gate_line (And a b) = codes "and" ++ number a ++ number b ++ 10 ∷ []
gate_line (Xor a b) = codes "xor" ++ number a ++ number b ++ 10 ∷ []
gate_line (Carry a b c) = codes "carry" ++ number a ++ number b ++ number c ++ 10 ∷ []

-- output NAME LIT .., bit 0 first
abbrev pub named_line : Output → List ℕ
named_line o = output_line o.name o.literals

-- the whole text
abbrev pub text : NetworkValue → List ℕ
text n = head ++ field n.name ++ 10 ∷ clock_line n.clock ++ flat_map input_line n.inputs ++ flat_map flip_line n.flips ++ flat_map gate_line n.gates ++ flat_map named_line n.outputs
    ++ codes "end" ++ 10 ∷ []

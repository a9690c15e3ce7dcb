-- A network whose lines were read, whatever its literals and names refer to.
use Rattle.std.specs.Prelude.{ℕ, List, [], ◌∷◌, ◌++◌, flat_map, None, Some}
use Rattle.lz_lines.specs.Sections.{sections}
use Rattle.g_net.specs.declared.network.Flip as flip
use Rattle.g_net.specs.Network.{NetworkValue}
use Rattle.g_text.specs.declared.line.Line.{Line}
use Rattle.g_text.specs.declared.line.Line.TheVariants.{Clock, Input, Flip, Gate, Output}
use Rattle.g_text.specs.declared.raw.Raw.TheInside as raw
use Rattle.g_text.specs.Text.{flip_line, gate_line, head, named_line}

abbrev pub raw_value : raw.Inside → NetworkValue
raw_value n = record { name = n.name; clock = n.clock; inputs = n.inputs; flips = n.flips; gates = n.gates; outputs = n.outputs }

abbrev pub bare : List ℕ → NetworkValue
bare name = record { name = name; clock = None; inputs = []; flips = []; gates = []; outputs = [] }

-- one line more
abbrev pub with_line : NetworkValue → Line → NetworkValue
with_line n (Clock name) = record n { clock = Some name }
with_line n (Input p) = record n { inputs = n.inputs ++ p ∷ [] }
with_line n (Flip f) = record n { flips = n.flips ++ f ∷ [] }
with_line n (Gate g) = record n { gates = n.gates ++ g ∷ [] }
with_line n (Output o) = record n { outputs = n.outputs ++ o ∷ [] }

-- the lines between the model's and the end
abbrev pub body : NetworkValue → List ℕ
body n = sections flip_line gate_line n.clock n.inputs n.flips n.gates (flat_map named_line n.outputs)

abbrev pub model_line : List ℕ → List ℕ
model_line name = head ++ 32 ∷ name ++ 10 ∷ []

-- a flip-flop whose literals are not set yet
abbrev pub begun : flip.Flip → flip.Flip
begun f = record { first = f.first; literal = 0; enable = 1 }

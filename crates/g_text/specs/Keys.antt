-- The words that begin the lines of a network's text, and where each may come.
use Rattle.std.specs.Prelude.{ℕ, List, [], ◌∷◌, codes, Bool, is_some}
use Rattle.lz_lines.specs.Sections.{Section, Clock, Inputs, Flops, Cells, Outputs, End, may_come, none, those}
use Rattle.g_net.specs.Network.{NetworkValue}
use Rattle.g_text.specs.declared.line.Key.{Key}
use Rattle.g_text.specs.declared.line.Key.TheVariants as key

-- the word that begins a line
abbrev pub key_word : Key → List ℕ
key_word key.Clock = codes "clock"
key_word key.Input = codes "input"
key_word key.Flip = codes "ff"
key_word key.And = codes "and"
key_word key.Xor = codes "xor"
key_word key.Carry = codes "carry"
key_word key.Output = codes "output"
key_word key.End = codes "end"

-- the section of a line
abbrev pub section : Key → Section
section key.Clock = Clock
section key.Input = Inputs
section key.Flip = Flops
section key.And = Cells
section key.Xor = Cells
section key.Carry = Cells
section key.Output = Outputs
section key.End = End

-- all but the end
abbrev pub all_keys : List Key
all_keys = key.Clock ∷ key.Input ∷ key.Flip ∷ key.And ∷ key.Xor ∷ key.Carry ∷ key.Output ∷ []

-- The lines that may come next, besides the end: for whether there are no outputs, gates and flip-flops yet, whether
-- there is a clock, and whether there are no inputs yet.
abbrev pub keys : Bool → Bool → Bool → Bool → Bool → List Key
keys outputs gates flips clock inputs = those (λ k. may_come outputs gates flips clock inputs (section k)) all_keys

abbrev pub keys_of : NetworkValue → List Key
keys_of n = keys (none n.outputs) (none n.gates) (none n.flips) (is_some n.clock) (none n.inputs)

-- Which lines may come next.
use Rattle.std.proofs.Common.{◌≡◌, ℕ, List, Bool, true, is_some, refl}
use Rattle.lz_lines.specs.Keywords.{OneOf}
use Rattle.lz_lines.specs.Sections.{may_come, none}
use Rattle.lz_lines.proofs.Sections as sections
use Rattle.g_net.specs.declared.network.Gate.{Gate}
use Rattle.g_net.specs.declared.network.Gate.TheVariants as gate
use Rattle.g_net.specs.Network.{NetworkValue}
use Rattle.g_text.specs.declared.line.Key.{Key}
use Rattle.g_text.specs.declared.line.Key.TheVariants as key
use Rattle.g_text.specs.Keys.{all_keys, key_word, keys_of, section}
use Rattle.g_text.proofs.Spelling.{gate_key}

-- a line of this word may come
abbrev pub may_of : NetworkValue → Key → Bool
may_of n k = may_come (none n.outputs) (none n.gates) (none n.flips) (is_some n.clock) (none n.inputs) (section k)

pub opens : (n : NetworkValue) (k : Key) (text : List ℕ) → OneOf key_word key.End (keys_of n) k text → (may_of n k ≡ true) × (text ≡ key_word k)
opens n k text is = sections.opens key_word key.End (may_of n) all_keys k text refl is

-- gates come before the outputs
pub gate_may : (n : NetworkValue) (g : Gate) → may_of n (gate_key g) ≡ none n.outputs
gate_may n (gate.And a b) = refl
gate_may n (gate.Xor a b) = refl
gate_may n (gate.Carry a b c) = refl

-- Which lines may come next.
use Rattle.std.proofs.Common.{◌≡◌, ℕ, List, Bool, true, is_some, refl}
use Rattle.lz_lines.specs.Keywords.{OneOf}
use Rattle.lz_lines.specs.Sections.{may_come, none}
use Rattle.lz_lines.proofs.Sections as sections
use Rattle.n_cells.specs.declared.netlist.Stored.{Stored}
use Rattle.n_cells.specs.declared.netlist.Stored.TheVariants as stored
use Rattle.n_cells.specs.Netlist.{NetlistValue}
use Rattle.n_text.specs.declared.line.Key.{Key}
use Rattle.n_text.specs.declared.line.Key.TheVariants as key
use Rattle.n_text.specs.Keys.{all_keys, key_word, keys_of, section}
use Rattle.n_text.proofs.Spelling.{cell_key}

-- a line of this word may come
abbrev pub may_of : NetlistValue → Key → Bool
may_of n k = may_come (none n.outputs) (none n.cells) (none n.flops) (is_some n.clock) (none n.inputs) (section k)

pub opens : (n : NetlistValue) (k : Key) (text : List ℕ) → OneOf key_word key.End (keys_of n) k text → (may_of n k ≡ true) × (text ≡ key_word k)
opens n k text is = sections.opens key_word key.End (may_of n) all_keys k text refl is

-- cells come before the outputs
pub cell_may : (n : NetlistValue) (c : Stored) → may_of n (cell_key c) ≡ none n.outputs
cell_may n (stored.Lut leaves table) = refl
cell_may n (stored.Carry a b c) = refl

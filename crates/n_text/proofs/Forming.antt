-- What one more line keeps of the form.
use Rattle.std.proofs.Common.{◌≡◌, ℕ, ◌<◌, ◌+◌, List, [], ◌∷◌, ◌++◌, take, length, get_or, slice_get, Option, None, Some, sym, subst}
use Rattle.std.specs.Option.{option_to_list}
use Rattle.std.proofs.lemmas.List.{take_more}
use Rattle.lz_base.specs.declared.name.Port.{Port}
use Rattle.lz_base.specs.Names.{IsName}
use Rattle.lz_lines.specs.Fields.{Each}
use Rattle.lz_base.proofs.Lists.{take_next}
use Rattle.n_cells.specs.declared.netlist.Flop.{Flop}
use Rattle.n_cells.specs.declared.netlist.Stored.{Stored}
use Rattle.n_cells.specs.declared.netlist.Stored.TheVariants as stored
use Rattle.n_cells.specs.declared.format.Format.TheVariants as format
use Rattle.n_cells.specs.Leaves.{most_leaves}
use Rattle.n_cells.specs.Netlist.{NetlistValue, AllBelow, HaveShapes, ReadsBelow, FlopsBelow, OutputsBelow, IsWellFormed}
use Rattle.n_cells.specs.Form.{ClockNamed, PortsNamed, CellsBelow, HaveEnables, HaveFewLeaves, FitsFormat}

-- one more flip-flop whose nets are below
pub flops_more : (high : ℕ) (fs : List Flop) (f : Flop) → FlopsBelow high fs → f.net < high → f.enable < high → FlopsBelow high (fs ++ f ∷ [])
flops_more high [] f h one enable = (one, enable, tt)
flops_more high (g ∷ fs) f h one enable = (h.0, h.1, flops_more high fs f h.2 one enable)

-- one more port with a name
pub named_more : (ps : List Port) (p : Port) → PortsNamed ps → IsName p.name → PortsNamed (ps ++ p ∷ [])
named_more [] p h one = (one, tt)
named_more (q ∷ ps) p h one = (h.0, named_more ps p h.1 one)

-- one more cell that reads nets below
pub cells_more : (high : ℕ) (cs : List Stored) (c : Stored) → CellsBelow high cs → ReadsBelow high c → CellsBelow high (cs ++ c ∷ [])
cells_more high [] c h one = (one, tt)
cells_more high (d ∷ cs) c h one = (h.0, cells_more high cs c h.1 one)

-- one more output with nets below
pub outputs_more_below : (high : ℕ) (ns : List (List ℕ)) (n : List ℕ) → OutputsBelow high ns → AllBelow high n → OutputsBelow high (ns ++ n ∷ [])
outputs_more_below high [] n h one = (one, tt)
outputs_more_below high (m ∷ ns) n h one = (h.0, outputs_more_below high ns n h.1 one)

-- the nets of the flip-flop at an index are below
pub flops_next : (high : ℕ) (fs : List Flop) (i : ℕ) (d : Flop) → FlopsBelow high (take i fs) → i < length fs → (get_or fs i d).net < high → (get_or fs i d).enable < high
    → FlopsBelow high (take (i + 1) fs)
flops_next high fs i d h within one enable = subst (FlopsBelow high) (sym (take_more fs i d within)) (flops_more high (take i fs) (get_or fs i d) h one enable)

-- every flip-flop has what format 2 spells
enables_two : (fs : List Flop) → HaveEnables format.Two fs
enables_two [] = tt
enables_two (f ∷ fs) = (tt, enables_two fs)

-- every cell has as few leaves as format 2 spells
leaves_two : (cs : List Stored) → HaveShapes cs → HaveFewLeaves most_leaves cs
leaves_two [] h = tt
leaves_two (stored.Lut leaves table ∷ cs) h = (h.0.0, leaves_two cs h.1)
leaves_two (stored.Carry a b c ∷ cs) h = (tt, leaves_two cs h.1)

pub fits_two : (n : NetlistValue) → IsWellFormed n → FitsFormat format.Two n
fits_two n h = record { enables = enables_two n.flops; leaves = leaves_two n.cells h.begun.lines.cells }

-- names, as the form has them
pub clock_named : (clock : Option (List ℕ)) → Each IsName (option_to_list clock) → ClockNamed clock
clock_named None h = tt
clock_named (Some name) h = h.0

pub ports_named : (ps : List Port) → Each (λ (p : Port). IsName p.name) ps → PortsNamed ps
ports_named [] h = tt
ports_named (p ∷ ps) h = (h.0, ports_named ps h.1)

-- the cell at an index reads nets that are below
pub cells_next : (high : ℕ) (cs : List Stored) (i : ℕ) (c : Stored) → CellsBelow high (take i cs) → slice_get cs i ≡ Some c → ReadsBelow high c → CellsBelow high (take (i + 1) cs)
cells_next high cs i c h is one = subst (CellsBelow high) (sym (take_next cs i c is)) (cells_more high (take i cs) c h one)

-- the nets of the output at an index are below
pub outputs_next : (high : ℕ) (ns : List (List ℕ)) (i : ℕ) (n : List ℕ) → OutputsBelow high (take i ns) → slice_get ns i ≡ Some n → AllBelow high n → OutputsBelow high (take (i + 1) ns)
outputs_next high ns i n h is one = subst (OutputsBelow high) (sym (take_next ns i n is)) (outputs_more_below high (take i ns) n h one)

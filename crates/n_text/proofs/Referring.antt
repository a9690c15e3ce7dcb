-- A netlist with the form is well formed exactly where no reference is wrong.
use Rattle.std.proofs.Common.{◌≡◌, ℕ, ◌+◌, ◌<◌, ◌≤◌, List, [], ◌∷◌, ◌++◌, length, map, refl, arith, ap, sym, subst, ◌∙◌, append_assoc, append-nil}
use Rattle.std.specs.Option.{option_to_list}
use Rattle.lz_base.specs.declared.name.Port.{Port}
use Rattle.lz_base.specs.Names.{AreDistinct}
use Rattle.lz_lines.specs.Fields.{field}
use Rattle.lz_lines.specs.References.{wrong_inputs, wrong_name, wrong_numbers, wrong_output}
use Rattle.lz_lines.specs.Shared.{output_line}
use Rattle.lz_lines.proofs.Referring as referring
use Rattle.lz_lines.proofs.Referring.{clock_distinct, distinct_last, distinct_new, empty_front, inputs_none, inputs_right, name_none, name_right, numbers_none, numbers_right}
use Rattle.n_cells.specs.declared.netlist.Flop.{Flop}
use Rattle.n_cells.specs.declared.netlist.Stored.{Stored}
use Rattle.n_cells.specs.declared.netlist.Stored.TheVariants as stored
use Rattle.n_cells.specs.Netlist.{NetlistValue, net_count, first_net, nets_of, AllBelow, ReadsBelow, ReadBackwards, FlopsBelow, OutputsBelow, FillOutputs, IsWellFormed}
use Rattle.n_cells.specs.Text.{flop_line, cell_line}
use Rattle.n_cells.specs.declared.format.Format.{Format}
use Rattle.n_cells.specs.declared.format.Format.TheVariants as format_
use Rattle.n_cells.specs.Form.{HasForm, HaveEnables}
use Rattle.n_text.specs.Referred.{flop_nets, wrong_flops, wrong_cell, wrong_cells, wrong_outputs, wrong_places, inputs_at, flops_at, cells_at, outputs_at}

-- nets are numbers
all_below : (high : ℕ) (ns : List ℕ) → referring.AllBelow high ns → AllBelow high ns
all_below high [] h = tt
all_below high (n ∷ ns) h = (h.0, all_below high ns h.1)

below_all : (high : ℕ) (ns : List ℕ) → AllBelow high ns → referring.AllBelow high ns
below_all high [] h = tt
below_all high (n ∷ ns) h = (h.0, below_all high ns h.1)

nets_right : (high place : ℕ) (ns : List ℕ) → wrong_numbers high place ns ≡ [] → AllBelow high ns
nets_right high place ns e = all_below high ns (numbers_right high place ns e)

nets_none : (high place : ℕ) (ns : List ℕ) → AllBelow high ns → wrong_numbers high place ns ≡ []
nets_none high place ns h = numbers_none high place ns (below_all high ns h)

flops_right : (format : Format) (count place : ℕ) (fs : List Flop) → 2 ≤ count → HaveEnables format fs → wrong_flops format count place fs ≡ [] → FlopsBelow count fs
flops_right format count place [] some enables e = tt
flops_right format_.One count place (f ∷ fs) some enables e =
    let p = empty_front (wrong_numbers count (place + 4) (f.net ∷ [])) _ e in
    ((nets_right count (place + 4) (f.net ∷ []) p.0).0, omega (arith, enables.0), flops_right format_.One count (place + length (flop_line format_.One f)) fs some enables.1 p.1)
flops_right format_.Two count place (f ∷ fs) some enables e =
    let p = empty_front (wrong_numbers count (place + 4) (f.net ∷ f.enable ∷ [])) _ e in
    let h = nets_right count (place + 4) (f.net ∷ f.enable ∷ []) p.0 in
    (h.0, h.1.0, flops_right format_.Two count (place + length (flop_line format_.Two f)) fs some enables.1 p.1)

flop_none : (format : Format) (count place : ℕ) (f : Flop) → f.net < count → f.enable < count → wrong_numbers count place (flop_nets format f) ≡ []
flop_none format_.One count place f net enable = nets_none count place (f.net ∷ []) (net, tt)
flop_none format_.Two count place f net enable = nets_none count place (f.net ∷ f.enable ∷ []) (net, (enable, tt))

flops_none : (format : Format) (count place : ℕ) (fs : List Flop) → FlopsBelow count fs → wrong_flops format count place fs ≡ []
flops_none format count place [] h = refl
flops_none format count place (f ∷ fs) h =
    ap (λ l. l ++ wrong_flops format count (place + length (flop_line format f)) fs) (flop_none format count (place + 4) f h.0 h.1) ∙ flops_none format count (place + length (flop_line format f)) fs h.2

cell_right : (next place : ℕ) (c : Stored) → wrong_cell next place c ≡ [] → ReadsBelow next c
cell_right next place (stored.Lut leaves table) e = nets_right next _ leaves e
cell_right next place (stored.Carry a b c) e = let h = nets_right next (place + 5) (a ∷ b ∷ c ∷ []) e in (h.0, h.1.0, h.1.1.0)

cell_none : (next place : ℕ) (c : Stored) → ReadsBelow next c → wrong_cell next place c ≡ []
cell_none next place (stored.Lut leaves table) h = nets_none next _ leaves h
cell_none next place (stored.Carry a b c) h = nets_none next (place + 5) (a ∷ b ∷ c ∷ []) (h.0, (h.1, (h.2, tt)))

cells_right : (next place : ℕ) (cs : List Stored) → wrong_cells next place cs ≡ [] → ReadBackwards next cs
cells_right next place [] e = tt
cells_right next place (c ∷ cs) e =
    let p = empty_front (wrong_cell next place c) _ e in
    (cell_right next place c p.0, cells_right (next + nets_of c) (place + length (cell_line c)) cs p.1)

cells_none : (next place : ℕ) (cs : List Stored) → ReadBackwards next cs → wrong_cells next place cs ≡ []
cells_none next place [] h = refl
cells_none next place (c ∷ cs) h = ap (λ l. l ++ wrong_cells (next + nets_of c) (place + length (cell_line c)) cs) (cell_none next place c h.0) ∙ cells_none (next + nets_of c) (place + length (cell_line c)) cs h.1

outputs_right : (names : List (List ℕ)) (count place : ℕ) (ps : List Port) (ns : List (List ℕ)) → FillOutputs ps ns → AreDistinct names → wrong_outputs names count place ps ns ≡ []
    → AreDistinct (names ++ map (λ p. p.name) ps) × OutputsBelow count ns
outputs_right names count place [] [] fill h e = (subst AreDistinct (sym (append-nil names)) h, tt)
outputs_right names count place [] (n ∷ ns) fill h e = absurd fill
outputs_right names count place (p ∷ ps) [] fill h e = absurd fill
outputs_right names count place (p ∷ ps) (n ∷ ns) fill h e =
    let outer = empty_front (wrong_output names count place p.name n) _ e in
    let parts = empty_front (wrong_name names (place + 7) p.name) _ outer.0 in
    let rest = outputs_right (names ++ p.name ∷ []) count (place + length (output_line p.name n)) ps ns fill.1 (distinct_last names p.name h (name_right names (place + 7) p.name parts.0)) outer.1 in
    (subst AreDistinct (append_assoc names (p.name ∷ []) (map (λ p. p.name) ps)) rest.0, (nets_right count _ n parts.1, rest.1))

outputs_none : (names : List (List ℕ)) (count place : ℕ) (ps : List Port) (ns : List (List ℕ)) → AreDistinct (names ++ map (λ p. p.name) ps) → OutputsBelow count ns
    → wrong_outputs names count place ps ns ≡ []
outputs_none names count place [] ns h below = refl
outputs_none names count place (p ∷ ps) [] h below = refl
outputs_none names count place (p ∷ ps) (n ∷ ns) h below =
    let name : wrong_name names (place + 7) p.name ≡ [] = name_none names (place + 7) p.name (distinct_new names (map (λ p. p.name) ps) p.name h) in
    let nets : wrong_numbers count (place + 6 + length (field p.name)) n ≡ [] = nets_none count (place + 6 + length (field p.name)) n below.0 in
    let front : wrong_output names count place p.name n ≡ [] = ap (λ l. l ++ wrong_numbers count (place + 6 + length (field p.name)) n) name ∙ nets in
    ap (λ l. l ++ wrong_outputs (names ++ p.name ∷ []) count (place + length (output_line p.name n)) ps ns) front
    ∙ outputs_none (names ++ p.name ∷ []) count (place + length (output_line p.name n)) ps ns (subst AreDistinct (sym (append_assoc names (p.name ∷ []) (map (λ p. p.name) ps))) h) below.1

-- no reference is wrong, so the netlist is well formed
pub well_formed : (format : Format) (n : NetlistValue) → HasForm format n → wrong_places format n ≡ [] → IsWellFormed n
well_formed format n h e =
    let i = wrong_inputs (option_to_list n.clock) (inputs_at format n) n.inputs in
    let f = wrong_flops format (net_count n) (flops_at format n) n.flops in
    let c = wrong_cells (first_net n.inputs n.flops) (cells_at format n) n.cells in
    let all_ = empty_front (i ++ f ++ c) _ e in
    let three = empty_front (i ++ f) c all_.0 in
    let two = empty_front i f three.0 in
    let inputs = inputs_right (option_to_list n.clock) (inputs_at format n) n.inputs (clock_distinct n.clock) two.0 in
    let outputs = outputs_right (option_to_list n.clock ++ map (λ p. p.name) n.inputs) (net_count n) (outputs_at format n) n.outputs n.nets h.lines.filled inputs all_.1 in
    record {
      begun = record { lines = h.lines; names = outputs.0; cells = cells_right _ _ n.cells three.1; outputs = outputs.1 };
      flops = flops_right format _ _ n.flops (omega arith) h.fits.enables two.1;
    }

-- the netlist is well formed, so no reference is wrong
pub none_wrong : (format : Format) (n : NetlistValue) → IsWellFormed n → wrong_places format n ≡ []
none_wrong format n h =
    let names = option_to_list n.clock in
    let ins = map (λ (p : Port). p.name) n.inputs in
    let outs = map (λ (p : Port). p.name) n.outputs in
    let i = inputs_none names (inputs_at format n) n.inputs outs (subst AreDistinct (append_assoc names ins outs) h.begun.names) in
    let f = flops_none format (net_count n) (flops_at format n) n.flops h.flops in
    let c = cells_none (first_net n.inputs n.flops) (cells_at format n) n.cells h.begun.cells in
    let o = outputs_none (names ++ ins) (net_count n) (outputs_at format n) n.outputs n.nets h.begun.names h.begun.outputs in
    rw (i, f, c, o) refl

-- One line more keeps the form, and adds its spelling.
use Rattle.std.proofs.Common.{◌≡◌, ℕ, ◌≤◌, List, [], ◌∷◌, ◌++◌, length, flat_map, true, ◌||◌, not, is_some, IsSome, Option, None, Some, refl, ap, sym, subst, ◌∙◌, append_assoc, append-nil}
use Rattle.lz_base.specs.declared.name.Port.{Port}
use Rattle.lz_base.specs.Names.{IsName}
use Rattle.lz_lines.specs.Shared.{output_line}
use Rattle.lz_lines.specs.Sections.{none}
use Rattle.lz_lines.proofs.Sections.{both, cell_more, clock_more, flop_more, input_more, output_more}
use Rattle.n_cells.specs.declared.netlist.Flop.{Flop}
use Rattle.n_cells.specs.declared.netlist.Stored.{Stored}
use Rattle.n_cells.specs.declared.netlist.Stored.TheVariants as stored
use Rattle.lz_circuit.specs.Lines.{HasClock}
use Rattle.lz_circuit.proofs.Lines.{widths_more, clocked_more}
use Rattle.n_cells.specs.Netlist.{NetlistValue, HasShape, HaveShapes, FillOutputs}
use Rattle.n_cells.specs.Text.{flop_line, cell_line, output_lines}
use Rattle.n_cells.specs.Form.{bound, leaves_of, HasForm, HasEnable, HasFewLeaves, HaveEnables, HaveFewLeaves}
use Rattle.n_cells.specs.declared.format.Format.{Format}
use Rattle.n_text.specs.declared.line.Line.{Line}
use Rattle.n_text.specs.declared.line.Line.TheVariants as line
use Rattle.n_text.specs.Grammar.{IsLine}
use Rattle.n_text.specs.Keys.{key_word}
use Rattle.n_text.specs.Raw.{bare, with_line, body}
use Rattle.n_text.proofs.Forming.{named_more, flops_more, cells_more, outputs_more_below}
use Rattle.n_text.proofs.Opening.{cell_may, may_of, opens}
use Rattle.n_text.proofs.Spelling.{HasFields, key_of, spelling, spelling_is, tail_in}

-- flip-flops stand behind a clock, or come behind one
clock_there : (c : Option (List ℕ)) (fs : List Flop) → HasClock c fs → (not (none fs) || is_some c) ≡ true → IsSome c
clock_there None [] h e = cc
clock_there (Some c) [] h e = refl
clock_there c (f ∷ fs) h e = h

enables_more : (format : Format) (fs : List Flop) (f : Flop) → HaveEnables format fs → HasEnable format f → HaveEnables format (fs ++ f ∷ [])
enables_more format [] f h one = (one, tt)
enables_more format (g ∷ gs) f h one = (h.0, enables_more format gs f h.1 one)

few_more : (most : ℕ) (cs : List Stored) (c : Stored) → HaveFewLeaves most cs → HasFewLeaves most c → HaveFewLeaves most (cs ++ c ∷ [])
few_more most [] c h one = (one, tt)
few_more most (d ∷ ds) c h one = (h.0, few_more most ds c h.1 one)

clocked_first : (clock : Option (List ℕ)) (name : List ℕ) (fs : List Flop) → HasClock clock fs → HasClock (Some name) fs
clocked_first clock name [] h = tt
clocked_first clock name (f ∷ fs) h = refl

shapes_more : (cs : List Stored) (c : Stored) → HaveShapes cs → HasShape c → HaveShapes (cs ++ c ∷ [])
shapes_more [] c h one = (one, tt)
shapes_more (d ∷ ds) c h one = (h.0, shapes_more ds c h.1 one)

fill_more : (ps : List Port) (ns : List (List ℕ)) (p : Port) (n : List ℕ) → FillOutputs ps ns → length n ≡ p.width → FillOutputs (ps ++ p ∷ []) (ns ++ n ∷ [])
fill_more [] [] p n h one = (one, tt)
fill_more [] (m ∷ ms) p n h one = absurd h
fill_more (q ∷ qs) [] p n h one = absurd h
fill_more (q ∷ qs) (m ∷ ms) p n h one = (h.0, fill_more qs ms p n h.1 one)

-- a line that may come keeps the form
form_more : (format : Format) (n : NetlistValue) (l : Line) → HasForm format n → may_of n (key_of l) ≡ true → HasFields format l → HasForm format (with_line n l)
form_more format n (line.Clock name) h may f = record {
  lines = record { inputs = h.lines.inputs; clocked = clocked_first n.clock name n.flops h.lines.clocked; cells = h.lines.cells; widths = h.lines.widths; filled = h.lines.filled };
  fits = record { enables = h.fits.enables; leaves = h.fits.leaves };
  name = h.name;
  clock = f;
  inputs = h.inputs;
  flops = h.flops;
  cells = h.cells;
  outputs = h.outputs;
  nets = h.nets;
}
form_more format n (line.Input p) h may f = record {
  lines = record { inputs = widths_more n.inputs p h.lines.inputs f.1 f.2; clocked = h.lines.clocked; cells = h.lines.cells; widths = h.lines.widths; filled = h.lines.filled };
  fits = record { enables = h.fits.enables; leaves = h.fits.leaves };
  name = h.name;
  clock = h.clock;
  inputs = named_more n.inputs p h.inputs f.0;
  flops = h.flops;
  cells = h.cells;
  outputs = h.outputs;
  nets = h.nets;
}
form_more format n (line.Flop g) h may f = record {
  lines = record { inputs = h.lines.inputs; clocked = clocked_more n.clock n.flops g (clock_there n.clock n.flops h.lines.clocked (both _ _ (both (none n.outputs) _ may).1).1); cells = h.lines.cells; widths = h.lines.widths; filled = h.lines.filled };
  fits = record { enables = enables_more format n.flops g h.fits.enables f.2; leaves = h.fits.leaves };
  name = h.name;
  clock = h.clock;
  inputs = h.inputs;
  flops = flops_more bound n.flops g h.flops f.0 f.1;
  cells = h.cells;
  outputs = h.outputs;
  nets = h.nets;
}
form_more format n (line.Cell c) h may f = record {
  lines = record { inputs = h.lines.inputs; clocked = h.lines.clocked; cells = shapes_more n.cells c h.lines.cells f.0; widths = h.lines.widths; filled = h.lines.filled };
  fits = record { enables = h.fits.enables; leaves = few_more (leaves_of format) n.cells c h.fits.leaves f.1 };
  name = h.name;
  clock = h.clock;
  inputs = h.inputs;
  flops = h.flops;
  cells = cells_more bound n.cells c h.cells f.2;
  outputs = h.outputs;
  nets = h.nets;
}
form_more format n (line.Output p nets) h may f = record {
  lines = record { inputs = h.lines.inputs; clocked = h.lines.clocked; cells = h.lines.cells; widths = widths_more n.outputs p h.lines.widths (subst (λ w. 1 ≤ w) (sym f.1) f.2) (subst (λ w. w ≤ 128) (sym f.1) f.3); filled = fill_more n.outputs n.nets p nets h.lines.filled (sym f.1) };
  fits = record { enables = h.fits.enables; leaves = h.fits.leaves };
  name = h.name;
  clock = h.clock;
  inputs = h.inputs;
  flops = h.flops;
  cells = h.cells;
  outputs = named_more n.outputs p h.outputs f.0;
  nets = outputs_more_below bound n.nets nets h.nets f.4;
}

outputs_more : (ps : List Port) (ns : List (List ℕ)) (p : Port) (n : List ℕ) → FillOutputs ps ns → output_lines (ps ++ p ∷ []) (ns ++ n ∷ []) ≡ output_lines ps ns ++ output_line p.name n
outputs_more [] [] p n h = append-nil (output_line p.name n)
outputs_more [] (m ∷ ms) p n h = absurd h
outputs_more (q ∷ qs) [] p n h = absurd h
outputs_more (q ∷ qs) (m ∷ ms) p n h = ap (λ l. output_line q.name m ++ l) (outputs_more qs ms p n h.1) ∙ sym (append_assoc (output_line q.name m) (output_lines qs ms) (output_line p.name n))

no_outputs : (ps : List Port) (ns : List (List ℕ)) → FillOutputs ps ns → none ps ≡ true → output_lines ps ns ≡ []
no_outputs [] [] h e = refl
no_outputs [] (n ∷ ns) h e = absurd h
no_outputs (p ∷ ps) ns h e = cc

-- a line that may come adds its spelling
body_more : (format : Format) (n : NetlistValue) (l : Line) → HasForm format n → may_of n (key_of l) ≡ true → body format (with_line n l) ≡ body format n ++ spelling format l
body_more format n l h may = at l may
  where
    empty : none n.outputs ≡ true → output_lines n.outputs n.nets ≡ []
    empty = no_outputs n.outputs n.nets h.lines.filled

    at : (l : Line) → may_of n (key_of l) ≡ true → body format (with_line n l) ≡ body format n ++ spelling format l
    at (line.Clock name) may = clock_more (flop_line format) cell_line n.clock n.inputs n.flops n.cells _ _ empty name may
    at (line.Input p) may = input_more (flop_line format) cell_line n.clock n.inputs n.flops n.cells _ _ empty p may
    at (line.Flop f) may = flop_more (flop_line format) cell_line n.clock n.inputs n.flops n.cells _ _ empty f may
    at (line.Cell c) may = cell_more (flop_line format) cell_line n.clock n.inputs n.flops n.cells _ _ empty c (sym (cell_may n c) ∙ may)
    at (line.Output p nets) may = output_more (flop_line format) cell_line n.clock n.inputs n.flops n.cells _ _ empty _ (output_line p.name nets) (outputs_more n.outputs n.nets p nets h.lines.filled)

-- a line keeps the model's name
same_name : (n : NetlistValue) (l : Line) → (with_line n l).name ≡ n.name
same_name n (line.Clock name) = refl
same_name n (line.Input p) = refl
same_name n (line.Flop f) = refl
same_name n (line.Cell c) = refl
same_name n (line.Output p nets) = refl

pub record Grows (format : Format) (n : NetlistValue) (l : Line) (text : List ℕ) : Type 0 where
  pub form : HasForm format (with_line n l)
  pub spelled : body format (with_line n l) ≡ body format n ++ text
  pub name : (with_line n l).name ≡ n.name

-- a line of the grammar keeps the form, and adds its spelling
pub grows : (format : Format) (n : NetlistValue) (l : Line) (text : List ℕ) → HasForm format n → IsLine format n l text → Grows format n l text
grows format n l text h (k, front, back, iskey, tail, e) =
    let s = tail_in format k l back tail in
    let o = opens n k front iskey in
    let may : may_of n (key_of l) ≡ true = ap (may_of n) s.kind ∙ o.0 in
    let spelled : text ≡ spelling format l = e ∙ (λ i. (o.1 ∙ ap key_word (sym s.kind)) i ++ s.spelled i) ∙ spelling_is format l in
    record { form = form_more format n l h may s.fields; spelled = body_more format n l h may ∙ ap (λ x. body format n ++ x) (sym spelled); name = same_name n l }

-- no line but the model's
pub bare_form : (format : Format) (name : List ℕ) → IsName name → HasForm format (bare name)
bare_form format name h = record {
  lines = record { inputs = tt; clocked = tt; cells = tt; widths = tt; filled = tt };
  fits = record { enables = tt; leaves = tt };
  name = h;
  clock = tt;
  inputs = tt;
  flops = tt;
  cells = tt;
  outputs = tt;
  nets = tt;
}

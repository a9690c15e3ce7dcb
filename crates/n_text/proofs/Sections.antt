-- The lines of a netlist with the form, one after another, are those of the grammar.
use Rattle.std.proofs.Common.{◌≡◌, ℕ, ◌≤◌, List, [], ◌∷◌, ◌++◌, flat_map, true, is_some, IsSome, Option, None, Some, inl, inr, refl, ap, sym, subst, ◌∙◌, append_assoc, append-nil}
use Rattle.lz_base.specs.declared.name.Port.{Port}
use Rattle.lz_lines.specs.Keywords.{OneOf}
use Rattle.lz_lines.specs.Sections.{end_line, none}
use Rattle.lz_lines.specs.Shared.{clock_line, input_line, output_line}
use Rattle.lz_lines.proofs.Sections.{comes, flops_may, from_end, inputs_may, lines_of}
use Rattle.n_cells.specs.declared.format.Format.{Format}
use Rattle.n_cells.specs.declared.netlist.Flop.{Flop}
use Rattle.n_cells.specs.declared.netlist.Stored.{Stored}
use Rattle.n_cells.specs.declared.netlist.Stored.TheVariants as stored
use Rattle.n_cells.specs.Form.{bound, leaves_of, HasForm, HaveEnables, HaveFewLeaves, ClockNamed, PortsNamed, CellsBelow}
use Rattle.lz_circuit.specs.Lines.{HaveWidths, HasClock}
use Rattle.n_cells.specs.Netlist.{NetlistValue, HaveShapes, FillOutputs, FlopsBelow, OutputsBelow}
use Rattle.n_cells.specs.Text.{flop_line, cell_line, output_lines}
use Rattle.n_text.specs.declared.line.Key.TheVariants as key
use Rattle.n_text.specs.declared.line.Line.{Line}
use Rattle.n_text.specs.declared.line.Line.TheVariants as line
use Rattle.n_text.specs.Grammar.{IsLine, MayEnd, Rest}
use Rattle.n_text.specs.Keys.{all_keys, key_word}
use Rattle.n_text.specs.Raw.{bare, with_line, body}
use Rattle.n_text.proofs.Opening.{cell_may, may_of}
use Rattle.n_text.proofs.Spelling.{HasFields, key_of, cell_key, tail_of, tail_out, spelling, spelling_is}

cell_listed : (c : Stored) → OneOf key_word key.End all_keys (cell_key c) (key_word (cell_key c))
cell_listed (stored.Lut leaves table) = inr (inr (inr (inl (refl, refl))))
cell_listed (stored.Carry a b c) = inr (inr (inr (inr (inl (refl, refl)))))

listed : (l : Line) → OneOf key_word key.End all_keys (key_of l) (key_word (key_of l))
listed (line.Clock name) = inl (refl, refl)
listed (line.Input p) = inr (inl (refl, refl))
listed (line.Flop f) = inr (inr (inl (refl, refl)))
listed (line.Cell c) = cell_listed c
listed (line.Output p nets) = inr (inr (inr (inr (inr (inl (refl, refl))))))

clocked_still : (clock : Option (List ℕ)) (fs : List Flop) → IsSome clock → HasClock clock fs
clocked_still clock [] h = tt
clocked_still clock (f ∷ fs) h = h

module _ (format : Format) where
  -- a line that may come is one of the grammar
  line_comes : (n : NetlistValue) (l : Line) → may_of n (key_of l) ≡ true → HasFields format l → IsLine format n l (spelling format l)
  line_comes n l may fields =
      (key_of l, key_word (key_of l), tail_of format l, comes key_word key.End (may_of n) all_keys (key_of l) (key_word (key_of l)) may (listed l), tail_out format l fields, sym (spelling_is format l))

  outputs_go : (n m : NetlistValue) (ps : List Port) (ns : List (List ℕ)) (t : List ℕ) → PortsNamed ps → HaveWidths ps → FillOutputs ps ns → OutputsBelow bound ns
      → Rest format (record n { outputs = n.outputs ++ ps; nets = n.nets ++ ns }) m t → Rest format n m (output_lines ps ns ++ t)
  outputs_go n m [] [] t named widths fill below g = subst (λ (x : NetlistValue). Rest format x m t) (λ k. record n { outputs = append-nil n.outputs k; nets = append-nil n.nets k }) g
  outputs_go n m [] (q ∷ qs) t named widths fill below g = absurd fill
  outputs_go n m (p ∷ ps) [] t named widths fill below g = absurd fill
  outputs_go n m (p ∷ ps) (q ∷ qs) t named widths fill below g =
      let l : Line = line.Output p q in
      let next : Rest format (record n { outputs = n.outputs ++ p ∷ ps; nets = n.nets ++ q ∷ qs }) m t = g in
      let rest = outputs_go (with_line n l) m ps qs t named.1 widths.2 fill.1 below.1
      (subst (λ (x : NetlistValue). Rest format x m t) (λ k. record n { outputs = sym (append_assoc n.outputs (p ∷ []) ps) k; nets = sym (append_assoc n.nets (q ∷ []) qs) k }) next) in
      subst (λ x. Rest format n m x) (sym (append_assoc (output_line p.name q) (output_lines ps qs) t))
      (l ∷ rest.0, (spelling format l, output_lines ps qs ++ t, line_comes n l refl (named.0, sym fill.0, subst (λ w. 1 ≤ w) (sym fill.0) widths.0, subst (λ w. w ≤ 128) (sym fill.0) widths.1, below.0), rest.1, refl))

  cells_go : (n m : NetlistValue) (cs : List Stored) (t : List ℕ) → (none n.outputs ≡ true) × HaveShapes cs × HaveFewLeaves (leaves_of format) cs × CellsBelow bound cs
      → Rest format (record n { cells = n.cells ++ cs }) m t → Rest format n m (flat_map cell_line cs ++ t)
  cells_go = lines_of (IsLine format) with_line MayEnd end_line line.Cell cell_line (λ n cs. record n { cells = n.cells ++ cs })
      (λ n cs. (none n.outputs ≡ true) × HaveShapes cs × HaveFewLeaves (leaves_of format) cs × CellsBelow bound cs)
      (λ n c cs h. (line_comes n (line.Cell c) (cell_may n c ∙ h.0) (h.1.0, h.2.0, h.3.0), (h.0, h.1.1, h.2.1, h.3.1)))
      (λ n k. record n { cells = append-nil n.cells k }) (λ n c cs k. record n { cells = sym (append_assoc n.cells (c ∷ []) cs) k })

  flops_go : (n m : NetlistValue) (fs : List Flop) (t : List ℕ) → (none n.outputs ≡ true) × (none n.cells ≡ true) × HasClock n.clock fs × HaveEnables format fs × FlopsBelow bound fs
      → Rest format (record n { flops = n.flops ++ fs }) m t → Rest format n m (flat_map (flop_line format) fs ++ t)
  flops_go = lines_of (IsLine format) with_line MayEnd end_line line.Flop (flop_line format) (λ n fs. record n { flops = n.flops ++ fs })
      (λ n fs. (none n.outputs ≡ true) × (none n.cells ≡ true) × HasClock n.clock fs × HaveEnables format fs × FlopsBelow bound fs)
      (λ n f fs h. (line_comes n (line.Flop f) (flops_may _ _ (none n.flops) n.clock (none n.inputs) h.0 h.1 h.2) (h.4.0, h.4.1, h.3.0), (h.0, h.1, clocked_still n.clock fs h.2, h.3.1, h.4.2)))
      (λ n k. record n { flops = append-nil n.flops k }) (λ n f fs k. record n { flops = sym (append_assoc n.flops (f ∷ []) fs) k })

  inputs_go : (n m : NetlistValue) (ps : List Port) (t : List ℕ) → (none n.outputs ≡ true) × (none n.cells ≡ true) × (none n.flops ≡ true) × PortsNamed ps × HaveWidths ps
      → Rest format (record n { inputs = n.inputs ++ ps }) m t → Rest format n m (flat_map input_line ps ++ t)
  inputs_go = lines_of (IsLine format) with_line MayEnd end_line line.Input input_line (λ n ps. record n { inputs = n.inputs ++ ps })
      (λ n ps. (none n.outputs ≡ true) × (none n.cells ≡ true) × (none n.flops ≡ true) × PortsNamed ps × HaveWidths ps)
      (λ n p ps h. (line_comes n (line.Input p) (inputs_may _ _ _ (is_some n.clock) (none n.inputs) h.0 h.1 h.2) (h.3.0, h.4.0, h.4.1), (h.0, h.1, h.2, h.3.1, h.4.2)))
      (λ n k. record n { inputs = append-nil n.inputs k }) (λ n p ps k. record n { inputs = sym (append_assoc n.inputs (p ∷ []) ps) k })

  clock_go : (name : List ℕ) (m : NetlistValue) (clock : Option (List ℕ)) (t : List ℕ) → ClockNamed clock → Rest format (record (bare name) { clock = clock }) m t → Rest format (bare name) m (clock_line clock ++ t)
  clock_go name m None t named g = g
  clock_go name m (Some c) t named g = (line.Clock c ∷ g.0, (clock_line (Some c), t, line_comes (bare name) (line.Clock c) refl named, g.1, refl))

  -- the lines of a netlist with the form
  pub lines_go : (m : NetlistValue) → HasForm format m → Rest format (bare m.name) m (body format m ++ end_line)
  lines_go m h =
      let done : Rest format m m end_line = ([], (tt, refl, refl)) in
      let a = record (bare m.name) { clock = m.clock } in
      let b = record a { inputs = m.inputs } in
      let d = record b { flops = m.flops } in
      let e = record d { cells = m.cells } in
      let outputs : Rest format e m (output_lines m.outputs m.nets ++ end_line) = outputs_go e m m.outputs m.nets end_line h.outputs h.lines.widths h.lines.filled h.nets done in
      let cells : Rest format d m (flat_map cell_line m.cells ++ (output_lines m.outputs m.nets ++ end_line)) = cells_go d m m.cells _ (refl, h.lines.cells, h.fits.leaves, h.cells) outputs in
      let flops : Rest format b m (flat_map (flop_line format) m.flops ++ (flat_map cell_line m.cells ++ (output_lines m.outputs m.nets ++ end_line))) =
      flops_go b m m.flops _ (refl, refl, h.lines.clocked, h.fits.enables, h.flops) cells in
      let inputs : Rest format a m (flat_map input_line m.inputs ++ (flat_map (flop_line format) m.flops ++ (flat_map cell_line m.cells ++ (output_lines m.outputs m.nets ++ end_line)))) =
      inputs_go a m m.inputs _ (refl, refl, refl, h.inputs, h.lines.inputs) flops in
      let clock = clock_go m.name m m.clock _ h.clock inputs in
      subst (λ x. Rest format (bare m.name) m x)
      (sym (from_end (clock_line m.clock) (flat_map input_line m.inputs) (flat_map (flop_line format) m.flops) (flat_map cell_line m.cells) (output_lines m.outputs m.nets) end_line)) clock
